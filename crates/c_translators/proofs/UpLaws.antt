-- What a byte leaves, and how many words its packets have.
use Rattle.std.proofs.Common.{ℕ, ◌≡◌, ◌≤◌, ◌*◌, ◌∙◌, refl, ap, sym, arith, subst, List, length, Option, Some, None, Bool, true}
use Rattle.std.proofs.Math.Nat.{le-max_left, le-max_right}
use Rattle.std.proofs.lemmas.Bool.{le-ltb}
use Rattle.std.proofs.lemmas.Grind.{div_ceil_times}
use Rattle.std.specs.Prelude.{is_none, max, ◌&&◌, Result, Ok, Err}
use Rattle.std.specs.Int.{div_ceil}
use Rattle.voice_messages.specs.declared.voice1.Voice1.TheVariants as voice1
use Rattle.midi1_bytes.specs.declared.step.AfterCut.TheVariants as after
use Rattle.midi1_bytes.specs.Messages.{voice, common, exclusive, real_time}
use Rattle.midi1_bytes.specs.Steps.{Step, held, completes, stray, undefined, cut, too_long, completed_by}
use Rattle.sysex_groups.specs.Cut.{part_count}
use Rattle.param_collector.specs.Control.{holding_after}
use Rattle.param_collector.specs.Holding.{Holding}
use Rattle.midi_meaning.specs.Controllers.{Role, data_increment, data_decrement, pairing, role_of}
use Rattle.midi_meaning.specs.Refusal.{bad_role}
use Rattle.midi_meaning.specs.UpRefusal.{refusal_of_step}
use Rattle.midi_meaning.specs.declared.listed.BadStep.{BadStep}
use Rattle.midi_meaning.specs.declared.listed.Listed.{Listed}
use Rattle.up_translator.specs.ByteLines.{first_in, has_none, second_in}
use Rattle.up_translator.specs.Raised.{packets_in}
use Rattle.up_translator.specs.Held.{KeepsAfter, UpState, holding_after_step, state_after, step_in, up_after}
use Rattle.up_translator.specs.Step.{Accepts, payload_by}
use Rattle.up_translator.specs.declared.raised.Raised.{Raised}
use Rattle.c_answers.specs.Within.{CompletesWithin, ExclusivesStayWithinTheirLimit, IsWithin}
use Rattle.c_answers.specs.Lines.{listed_line, no_line}
use Rattle.c_answers.specs.Numbers.{number_of}
use Rattle.c_translators.specs.Encoded.{AreEncoded}
use Rattle.c_answers.specs.Refusals.{status_of_step}
use Rattle.c_answers.specs.declared.status.Status.TheVariants as statuses
use Rattle.c_answers.specs.Outcomes.{outcome_of}
use Rattle.c_answers.specs.declared.outcome.ByteOutcome.{ByteOutcome}
use Rattle.c_translators.specs.Up.{CutsWithin, HasRaised, IsAccepted, IsAnswered, IsRefused, IsSound, IsTakenOrRefused, RaisesWithin}
use Rattle.c_translators.specs.Up.{after_refused, answers, most_words}

-- ---- the limit

fewer_parts : (payload : List ℕ) (room size : ℕ) → length payload ≤ room → max (div_ceil room 6 * 2) 4 ≤ size
    → 2 * part_count payload ≤ size
fewer_parts payload room size short most =
    let own = div_ceil_times (length payload) 6 (omega arith) in
    let all = div_ceil_times room 6 (omega arith) in
    let twice : div_ceil room 6 * 2 ≤ size = omega (arith, most, le-max_left (div_ceil room 6 * 2) 4) in
    let four : 4 ≤ size = omega (arith, most, le-max_right (div_ceil room 6 * 2) 4) in
    let half : div_ceil (length payload) 6 ≤ div_ceil room 6 = omega (arith, own.1, all.0, short) in
    let parts : (s : ℕ) → 2 * s ≤ size → 2 * s ≤ size = λ s h. h in
    max_twice (div_ceil (length payload) 6) size (omega (arith, four)) (omega (arith, half, twice))
  where
    max_twice : (d size : ℕ) → 2 ≤ size → 2 * d ≤ size → 2 * max 1 d ≤ size
    max_twice d size one h = omega (arith, one, h)

payload_within : (step : Step) (room size : ℕ) → CompletesWithin room step → max (div_ceil room 6 * 2) 4 ≤ size
    → CutsWithin (payload_by (completed_by step)) size
payload_within (completes (exclusive bytes)) room size h most = fewer_parts bytes room size h most
payload_within (completes (voice message)) room size h most = tt
payload_within (completes (common message)) room size h most = tt
payload_within (completes (real_time message)) room size h most = tt
payload_within held room size h most = tt
payload_within stray room size h most = tt
payload_within undefined room size h most = tt
payload_within too_long room size h most = tt
payload_within (cut start what after.Begins) room size h most = tt
payload_within (cut start what after.Tune) room size h most = tt
payload_within (cut start what after.Undefined) room size h most = tt
payload_within (cut start what after.Stray) room size h most = tt

pub raises_within : ExclusivesStayWithinTheirLimit → (up : UpState) (byte offset size : ℕ) (raised : Raised) → IsWithin up.parsing
    → most_words up ≤ size →
    Accepts up.holding up.group offset (step_in up offset byte) raised → RaisesWithin raised size
raises_within law up byte offset size raised within most accepts =
    let kept = law up.parsing offset byte within in (
      omega (arith, most, le-max_right (div_ceil up.parsing.room 6 * 2) 4),
      subst (λ payload. CutsWithin payload size) (sym accepts.payload)
          (payload_within (step_in up offset byte) up.parsing.room size kept.completed most),
    )

pub stays_within : ExclusivesStayWithinTheirLimit → (up : UpState) (offset byte : ℕ) → IsWithin up.parsing →
    (most_words (up_after up offset byte) ≡ most_words up) × IsWithin (up_after up offset byte).parsing
stays_within law up offset byte within =
    let kept = law up.parsing offset byte within in
    (ap (λ room. max (div_ceil room 6 * 2) 4) kept.same, omega (arith, kept.opened, kept.same))

-- ---- a byte that is refused

control_keeps : (role : Role) (paired : Bool) (holding : Holding) (channel index value : ℕ) (why : BadStep) → bad_role role ≡ Some why →
    holding_after (pairing paired role) holding channel index value ≡ holding
control_keeps data_increment paired holding channel index value why is = refl
control_keeps data_decrement paired holding channel index value why is = refl
control_keeps _ paired holding channel index value why is = absurd (let e = is in cc)

step_keeps : (step : Step) (holding : Holding) (why : BadStep) → refusal_of_step step ≡ Some why → holding_after_step holding step ≡ holding
step_keeps (completes (voice (voice1.Control channel index value))) holding why is =
    control_keeps (role_of index) holding.paired holding channel index value why is
step_keeps (completes (voice message)) holding why is = absurd (let e = is in cc)
step_keeps (completes (common message)) holding why is = refl
step_keeps (completes (real_time message)) holding why is = refl
step_keeps (completes (exclusive bytes)) holding why is = refl
step_keeps held holding why is = refl
step_keeps stray holding why is = refl
step_keeps undefined holding why is = refl
step_keeps too_long holding why is = refl
step_keeps (cut start what after.Begins) holding why is = refl
step_keeps (cut start what after.Tune) holding why is = refl
step_keeps (cut start what after.Undefined) holding why is = refl
step_keeps (cut start what after.Stray) holding why is = refl

pub refused_after : (up : UpState) (offset byte : ℕ) (why : BadStep) → refusal_of_step (step_in up offset byte) ≡ Some why →
    up_after up offset byte ≡ after_refused up offset byte
refused_after up offset byte why is =
    ap (λ holding. record (after_refused up offset byte) { holding = holding }) (step_keeps (step_in up offset byte) up.holding why is)

-- ---- between two bytes

pub sound_after : ExclusivesStayWithinTheirLimit → (up : UpState) (offset byte : ℕ) → IsSound up
    → KeepsAfter up.holding (step_in up offset byte) → IsSound (up_after up offset byte)
sound_after law up offset byte sound keeps =
    record {
      below = sound.below;
      within = (stays_within law up offset byte sound.within).1;
      state = state_after up.holding.paired sound.state (completed_by (step_in up offset byte));
      keeps = keeps sound.state sound.keeps;
    }

-- ---- what is shown

no_lines : (first second : Option Listed) → is_none first && is_none second ≡ true
    → (no_line ≡ listed_line first) × (no_line ≡ listed_line second)
no_lines None None none = (refl, refl)
no_lines None (Some second) none = absurd (let e = none in cc)
no_lines (Some first) second none = absurd (let e = none in cc)

-- a byte that has no line
pub shows_alone : (raised : Raised) (offset : ℕ) (old new : List ℕ) (count : ℕ) → AreEncoded (packets_in raised) old count new
    → has_none raised.lines ≡ true →
    HasRaised raised offset old (outcome_of offset count no_line no_line) new
shows_alone raised offset old new count encoded none =
    let lines = no_lines (first_in raised.lines) (second_in raised.lines) none in
    record { words = encoded; shown = λ i. outcome_of offset count (lines.0 i) (lines.1 i) }

-- ---- the call

pub answered : (up : UpState) (byte offset : ℕ) (old : List ℕ) (outcome : ByteOutcome) (new : List ℕ) (after : UpState)
    → most_words up ≤ length old →
    IsAccepted up byte offset old outcome new → after ≡ up_after up offset byte
    → IsAnswered up byte offset old (number_of statuses.Done) outcome new after
answered up byte offset old outcome new after fits taken left =
    subst (λ small. answers small up byte offset old (number_of statuses.Done) outcome new after)
    (sym (le-ltb (length old) (most_words up) fits))
    (Ok tt, taken, refl, left)

pub refused : (up : UpState) (byte offset : ℕ) (old : List ℕ) (why : BadStep) (status : ℕ) (outcome : ByteOutcome) (new : List ℕ)
    (after : UpState) → most_words up ≤ length old →
    IsRefused up byte offset old why outcome new → status ≡ number_of (status_of_step why) → after ≡ up_after up offset byte →
    IsAnswered up byte offset old status outcome new after
refused up byte offset old why status outcome new after fits taken answer left =
    subst (λ small. answers small up byte offset old status outcome new after) (sym (le-ltb (length old) (most_words up) fits))
    (Err why, taken, answer, left ∙ refused_after up offset byte why taken.refused)

-- what is kept is kept after it, whether the byte is refused or not
pub result_keeps : (up : UpState) (byte offset : ℕ) (old : List ℕ) (result : Result (Unit {0}) BadStep) (outcome : ByteOutcome) (new : List ℕ) →
    IsTakenOrRefused up byte offset old result outcome new → KeepsAfter up.holding (step_in up offset byte)
result_keeps up byte offset old (Ok done) outcome new taken = taken.keeps
result_keeps up byte offset old (Err why) outcome new taken = taken.keeps
