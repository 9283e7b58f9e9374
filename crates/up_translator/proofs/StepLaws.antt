-- Which steps F7 does, and which the other bytes do.
use Rattle.std.proofs.Common.{◌≡◌, ◌≢◌, ℕ, ◌∙◌, sym, subst, refl, List, suc, length, Option, Some, None, Bool, true, false, cond, arith}
use Rattle.std.proofs.lemmas.Bool.Decides.{nat_tests}
use Rattle.midi1_bytes.specs.declared.step.Step.{Step}
use Rattle.midi1_bytes.specs.declared.step.AfterCut.{AfterCut}
use Rattle.midi1_bytes.specs.declared.step.AfterCut.TheVariants as after
use Rattle.voice_messages.specs.declared.voice1.System.TheVariants as system
use Rattle.midi1_bytes.specs.Sorts.{one, two, Sort, data_byte, voice_status, exclusive_start, common_status, tune_request}
use Rattle.midi1_bytes.specs.Sorts.{undefined_status, exclusive_end, real_time_status, undefined_real_time, sort_of}
use Rattle.midi1_bytes.specs.Messages.{Message, common, exclusive}
use Rattle.midi1_bytes.specs.Stream.{fits, Open}
use Rattle.midi1_bytes.specs.Steps as steps
use Rattle.midi1_bytes.specs.Answers.{step_view}
use Rattle.midi1_bytes.specs.Parsing.{Begun, begun_message, begun_exclusive, Parsing, open_of, cut_by}
use Rattle.midi1_bytes.specs.Parsing.{ended_by, message_step, data_step, parse_data, parse_under, parse}
use Rattle.midi_meaning.specs.State.{GroupState}
use Rattle.midi_meaning.specs.Messages.{step1}
use Rattle.param_collector.specs.Holding.{Holding}
use Rattle.param_collector.specs.Keeps.{is_control_change, Keeps}
use Rattle.up_translator.specs.Held.{holding_after_step, KeepsAfter}

abbrev pub EndsNothing : steps.Step → Type 0
EndsNothing (steps.completes (exclusive bytes)) = ⊥
EndsNothing _ = Unit {0}

of_message : (sort : Sort) (status : ℕ) (first : Option ℕ) (byte : ℕ) → EndsNothing (message_step sort status first byte)
of_message (voice_status one) status first byte = tt
of_message (voice_status two) status None byte = tt
of_message (voice_status two) status (Some first) byte = tt
of_message (common_status one) status first byte = tt
of_message (common_status two) status None byte = tt
of_message (common_status two) status (Some first) byte = tt
of_message data_byte status first byte = tt
of_message exclusive_start status first byte = tt
of_message tune_request status first byte = tt
of_message undefined_status status first byte = tt
of_message exclusive_end status first byte = tt
of_message real_time_status status first byte = tt
of_message undefined_real_time status first byte = tt

of_begun : (room : ℕ) (begun : Begun) (byte : ℕ) → EndsNothing (data_step room begun byte)
of_begun room (begun_message start status first) byte = of_message (sort_of status) status first byte
of_begun room (begun_exclusive start bytes) byte = go (fits (Some room) (suc (length bytes)))
  where
    go : (t : Bool) → EndsNothing (cond t steps.held steps.too_long)
    go true = tt
    go false = tt

of_data : (room : ℕ) (running : Option ℕ) (begun : Option Begun) (offset byte : ℕ)
    → EndsNothing (parse_data room running begun offset byte).step
of_data room running (Some begun) offset byte = of_begun room begun byte
of_data room (Some status) None offset byte = of_begun room (begun_message offset status None) byte
of_data room None None offset byte = tt

of_status : (what : Option Open) (besides : AfterCut) (step : steps.Step) → EndsNothing step → EndsNothing (cut_by what besides step)
of_status None a step h = h
of_status (Some what) a step h = tt

of_sort : (sort : Sort) (parsing : Parsing) (offset byte : ℕ) → (sort ≢ exclusive_end)
    → EndsNothing (parse_under sort parsing offset byte).step
of_sort data_byte parsing offset byte other = of_data parsing.room parsing.running parsing.begun offset byte
of_sort (voice_status count) parsing offset byte other = of_status (open_of parsing) after.Begins steps.held tt
of_sort exclusive_start parsing offset byte other = of_status (open_of parsing) after.Begins steps.held tt
of_sort (common_status count) parsing offset byte other = of_status (open_of parsing) after.Begins steps.held tt
of_sort tune_request parsing offset byte other = of_status (open_of parsing) after.Tune (steps.completes (common system.Tune)) tt
of_sort undefined_status parsing offset byte other = of_status (open_of parsing) after.Undefined steps.undefined tt
of_sort exclusive_end parsing offset byte other = absurd (other refl)
of_sort real_time_status parsing offset byte other = tt
of_sort undefined_real_time parsing offset byte other = tt

-- only F7 ends an exclusive
sort_of_other : (byte : ℕ) → (byte ≢ 247) → (sort_of byte ≢ exclusive_end)
unfolding sort_of
sort_of_other byte other = grind (arith, nat_tests, other)

pub no_exclusive : (s : Step) (parsing : Parsing) (offset byte : ℕ) (bytes : List ℕ) → (byte ≢ 247)
    → step_view s ≡ (parse parsing offset byte).step → step_view s ≡ steps.completes (exclusive bytes) → ⊥
no_exclusive s parsing offset byte bytes other is ends =
    subst EndsNothing (sym is ∙ ends) (of_sort (sort_of byte) parsing offset byte (sort_of_other byte other))

-- ---- F7

pub end_step : (parsing : Parsing) (offset : ℕ) → (parse parsing offset 247).step ≡ ended_by parsing.begun
unfolding sort_of
end_step parsing offset = refl

-- what it ends is no control change
pub held_after_end : (holding : Holding) (begun : Option Begun) → holding_after_step holding (ended_by begun) ≡ holding
held_after_end holding None = refl
held_after_end holding (Some (begun_message start status first)) = refl
held_after_end holding (Some (begun_exclusive start bytes)) = refl

pub kept_after_end : ((holding : Holding) (group : GroupState) (message : Message) → is_control_change message ≡ false → Keeps holding group
    → Keeps holding (step1 holding.paired group message)) →
    (holding : Holding) (begun : Option Begun) → KeepsAfter holding (ended_by begun)
kept_after_end law holding None state keeps = keeps
kept_after_end law holding (Some (begun_message start status first)) state keeps = keeps
kept_after_end law holding (Some (begun_exclusive start bytes)) state keeps = law holding state (exclusive bytes) refl keeps
