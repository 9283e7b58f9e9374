-- Bytes that are taken at once: the outcome of each is known, since nothing is raised of them, or one packet of the last.
use Rattle.std.proofs.Common.{ℕ, zero, suc, ◌≡◌, ◌≤◌, ◌<◌, ◌+◌, ◌-◌, ◌∙◌, refl, ap, sym, subst, arith, Bool, true, false}
use Rattle.std.proofs.Common.{List, [], ◌∷◌, ◌++◌, length, Option, Some, None}
use Rattle.std.proofs.Math.Bool.{or-true}
use Rattle.std.proofs.lemmas.List.{append-nil}
use Rattle.std.proofs.Math.Dec.{eqb-suc-zero}
use Rattle.std.specs.Prelude.{◌||◌, ◌==◌, if◌then◌else◌, not, map}
use Rattle.ump_grammar.specs.Reading.{Encodes}
use Rattle.ump_grammar.specs.Ranges.{IsPacket}
use Rattle.ump_grammar.specs.declared.packet.Packet.{Packet}
use Rattle.ump_grammar.specs.declared.packet.Packet.TheVariants as packet
use Rattle.midi1_bytes.specs.Messages.{Message, voice, common, exclusive, real_time}
use Rattle.midi1_bytes.specs.Steps.{completed_by}
use Rattle.sysex_groups.specs.Cut.{part_count}
use Rattle.midi_meaning.specs.StepListing.{line_up}
use Rattle.midi_meaning.specs.Raising.{exclusive_packet, first_exclusive_packets, raised_completed}
use Rattle.midi_meaning.specs.State.{GroupState}
use Rattle.up_translator.specs.Fronts.{RaiseNothing, RaiseOne, RaisesAlone}
use Rattle.up_translator.specs.Held.{UpState, step_in, up_after}
use Rattle.up_translator.specs.Step.{Accepts, payload_by}
use Rattle.up_translator.specs.declared.raised.Raised.{Raised}
use Rattle.c_answers.specs.Lines.{no_line}
use Rattle.c_answers.specs.Outcomes.{items_of, outcome_of}
use Rattle.c_answers.specs.Within.{ExclusivesStayWithinTheirLimit}
use Rattle.c_answers.specs.declared.outcome.ByteOutcome.{ByteOutcome}
use Rattle.c_translators.specs.ByteBlocks.{TakesByte, TakesRun}
use Rattle.c_translators.specs.Up.{IsSound}
use Rattle.c_translators.proofs.UpLaws.{sound_after}

-- ---- no exclusive is completed

abbrev pub is_exclusive : Packet → Bool
is_exclusive (packet.Exclusive group form bytes) = true
is_exclusive _ = false

abbrev pub has_exclusive : List Packet → Bool
has_exclusive [] = false
has_exclusive (first ∷ more) = is_exclusive first || has_exclusive more

-- the last one is
ends_so : (packets : List Packet) (last : Packet) → is_exclusive last ≡ true → has_exclusive (packets ++ last ∷ []) ≡ true
ends_so [] last is = ap (λ b. b || false) is
ends_so (first ∷ more) last is = ap (λ b. is_exclusive first || b) (ends_so more last is) ∙ or-true (is_exclusive first)

among : (group : ℕ) (bytes : List ℕ) (n : ℕ) → 1 ≤ n → has_exclusive (first_exclusive_packets group bytes n) ≡ true
among group bytes zero some = absurd (omega (arith, some))
among group bytes (suc n) some = ends_so (first_exclusive_packets group bytes n) (exclusive_packet group bytes n) refl

no_payload : (paired : Bool) (state : GroupState) (group : ℕ) (message : Option Message) (packets : List Packet)
    → has_exclusive packets ≡ false → raised_completed paired state group message ≡ packets → payload_by message ≡ None
no_payload paired state group None packets none is = refl
no_payload paired state group (Some (voice message)) packets none is = refl
no_payload paired state group (Some (common message)) packets none is = refl
no_payload paired state group (Some (real_time message)) packets none is = refl
no_payload paired state group (Some (exclusive bytes)) packets none is =
    let e : true ≡ false = sym (among group bytes (part_count bytes) (omega arith)) ∙ ap has_exclusive is ∙ none in
    absurd (let f = e in cc)

-- ---- one byte

-- the item of an outcome, by whether nothing is written
abbrev items_if : ByteOutcome → Bool → List ByteOutcome
items_if outcome is_none = if not is_none || not (outcome.first.kind == 0) then outcome ∷ [] else []

module _ (up : UpState) (offset byte : ℕ) (sound : IsSound up) where
  -- what is raised: this packet, if there is one, and no line
  abbrev pub raised_as : Option Packet → Raised
  raised_as None = record {
    packet = None;
    payload = None;
    lines = record { group = record { number = up.group; below = sound.below }; first = None; second = None };
  }
  raised_as (Some one) = record {
    packet = Some (record { ref_ptr = (0, 0); now = one });
    payload = None;
    lines = record { group = record { number = up.group; below = sound.below }; first = None; second = None };
  }

  pub nothing_accepted : RaisesAlone up offset byte [] → Accepts up.holding up.group offset (step_in up offset byte) (raised_as None)
  nothing_accepted alone =
      record {
        accepted = alone.accepted;
        grouped = refl;
        apart = tt;
        in_order = tt;
        payload = sym (no_payload up.holding.paired sound.state up.group (completed_by (step_in up offset byte)) [] refl
            (alone.packets_of sound.state sound.keeps));
        data_bytes = tt;
        spelled = tt;
        raised_of = λ state keeps. record {
          packets = sym (alone.packets_of state keeps);
          lines = sym (ap (map (line_up up.group)) (alone.unlisted state keeps));
        };
      }

  pub one_accepted : (one : Packet) → is_exclusive one ≡ false → IsPacket one → RaisesAlone up offset byte (one ∷ [])
      → Accepts up.holding up.group offset (step_in up offset byte) (raised_as (Some one))
  one_accepted one other fits alone =
      record {
        accepted = alone.accepted;
        grouped = refl;
        apart = tt;
        in_order = tt;
        payload = sym (no_payload up.holding.paired sound.state up.group (completed_by (step_in up offset byte)) (one ∷ [])
            (ap (λ b. b || false) other) (alone.packets_of sound.state sound.keeps));
        data_bytes = tt;
        spelled = fits;
        raised_of = λ state keeps. record {
          packets = sym (alone.packets_of state keeps);
          lines = sym (ap (map (line_up up.group)) (alone.unlisted state keeps));
        };
      }

  nothing_taken : RaisesAlone up offset byte [] → TakesByte up offset (byte ∷ []) [] [] (up_after up offset byte)
  nothing_taken alone =
      record {
        byte = byte;
        raised = raised_as None;
        accepts = nothing_accepted alone;
        keeps = alone.kept;
        encoded = refl;
        bytes_are = refl;
        outcomes_are = refl;
        after_is = refl;
      }

  one_taken : (one : Packet) (words : List ℕ) → is_exclusive one ≡ false → IsPacket one → Encodes one words → 0 < length words
      → RaisesAlone up offset byte (one ∷ []) →
      TakesByte up offset (byte ∷ []) words (outcome_of offset (length words) no_line no_line ∷ []) (up_after up offset byte)
  one_taken one words other fits encoded some alone =
      record {
        byte = byte;
        raised = raised_as (Some one);
        accepts = one_accepted one other fits alone;
        keeps = alone.kept;
        encoded = (words, [], sym (append-nil words), encoded, refl);
        bytes_are = refl;
        outcomes_are = told (length words) some;
        after_is = refl;
      }
    where
      told : (n : ℕ) → 0 < n → outcome_of offset n no_line no_line ∷ [] ≡ items_of (outcome_of offset n no_line no_line)
      told zero none = absurd (omega (arith, none))
      told (suc n) none = ap (items_if (outcome_of offset (suc n) no_line no_line)) (sym (eqb-suc-zero n))

-- ---- several

pub nothing_run : ExclusivesStayWithinTheirLimit → (bytes : List ℕ) (up : UpState) (offset : ℕ) (new : UpState) → IsSound up
    → RaiseNothing bytes up offset new → TakesRun up offset bytes [] [] new
nothing_run law [] up offset new sound none = (refl, refl, none)
nothing_run law (byte ∷ []) up offset new sound none =
    subst (λ after. TakesByte up offset (byte ∷ []) [] [] after) (sym none.1) (nothing_taken up offset byte sound none.0)
nothing_run law (byte ∷ next ∷ more) up offset new sound none = (
  nothing_taken up offset byte sound none.0,
  nothing_run law (next ∷ more) (up_after up offset byte) (offset + 1) new (sound_after law up offset byte sound none.0.kept) none.1,
)

pub one_run : ExclusivesStayWithinTheirLimit → (bytes : List ℕ) (up : UpState) (offset : ℕ) (one : Packet) (words : List ℕ) (new : UpState)
    → IsSound up → is_exclusive one ≡ false → IsPacket one → Encodes one words → 0 < length words → RaiseOne bytes up offset one new →
    TakesRun up offset bytes words (outcome_of (offset + (length bytes - 1)) (length words) no_line no_line ∷ []) new
one_run law [] up offset one words new sound other fits encoded some raised = absurd raised
one_run law (byte ∷ []) up offset one words new sound other fits encoded some raised =
    let same : offset ≡ offset + (length (byte ∷ []) - 1) = omega arith in
    subst (λ after. TakesByte up offset (byte ∷ []) words
    (outcome_of (offset + (length (byte ∷ []) - 1)) (length words) no_line no_line ∷ []) after) (sym raised.1)
    (subst (λ at. TakesByte up offset (byte ∷ []) words (outcome_of at (length words) no_line no_line ∷ []) (up_after up offset byte)) same
    (one_taken up offset byte sound one words other fits encoded some raised.0))
one_run law (byte ∷ next ∷ more) up offset one words new sound other fits encoded some raised =
    let same : offset + 1 + (length (next ∷ more) - 1) ≡ offset + (length (byte ∷ next ∷ more) - 1) = omega arith in (
      nothing_taken up offset byte sound raised.0,
      subst (λ at. TakesRun (up_after up offset byte) (offset + 1) (next ∷ more) words
          (outcome_of at (length words) no_line no_line ∷ []) new) same
          (one_run law (next ∷ more) (up_after up offset byte) (offset + 1) one words new
          (sound_after law up offset byte sound raised.0.kept) other fits encoded some raised.1),
    )
