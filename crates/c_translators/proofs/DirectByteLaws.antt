-- A byte of which nothing is raised, or one packet that is no exclusive's.
use Rattle.std.proofs.Common.{ℕ, ◌≡◌, ◌≤◌, ◌∙◌, refl, sym, subst, Bool, true, false, List, [], ◌∷◌, length, None, Some}
use Rattle.std.proofs.lemmas.List.{append-nil}
use Rattle.ump_grammar.specs.Reading.{Encodes}
use Rattle.ump_grammar.specs.Ranges.{IsPacket}
use Rattle.ump_grammar.specs.declared.packet.Packet.{Packet}
use Rattle.up_translator.specs.Fronts.{RaisesAlone}
use Rattle.up_translator.specs.Held.{UpState}
use Rattle.c_answers.specs.Fronts.{with_front}
use Rattle.c_answers.specs.Lines.{no_line}
use Rattle.c_answers.specs.Outcomes.{empty_outcome, outcome_of}
use Rattle.c_answers.specs.Within.{ExclusivesStayWithinTheirLimit}
use Rattle.c_answers.specs.declared.outcome.ByteOutcome.{ByteOutcome}
use Rattle.c_translators.specs.Up.{IsAccepted, IsAcceptedOrLeft, IsDoneOrLeft, IsSound, most_words}
use Rattle.c_translators.proofs.RunLaws.{is_exclusive, nothing_accepted, one_accepted, raised_as}
use Rattle.c_translators.proofs.UpLaws.{answered, sound_after, stays_within}

pub nothing_written : (up : UpState) (byte offset : ℕ) (old : List ℕ) → IsSound up → RaisesAlone up offset byte []
    → IsAccepted up byte offset old (empty_outcome offset) old
nothing_written up byte offset old sound alone =
    record {
      raised = raised_as up offset byte sound None;
      accepts = nothing_accepted up offset byte sound alone;
      keeps = alone.kept;
      written = record { words = record { words = []; encoded = refl; count_is = refl; front = refl }; shown = refl };
    }

pub one_written : (up : UpState) (byte offset : ℕ) (old : List ℕ) (one : Packet) (words : List ℕ) (count : ℕ) (new : List ℕ) → IsSound up
    → is_exclusive one ≡ false → IsPacket one → Encodes one words → count ≡ length words → new ≡ with_front words old
    → RaisesAlone up offset byte (one ∷ []) → IsAccepted up byte offset old (outcome_of offset count no_line no_line) new
one_written up byte offset old one words count new sound other fits encoded size front alone =
    record {
      raised = raised_as up offset byte sound (Some one);
      accepts = one_accepted up offset byte sound one other fits alone;
      keeps = alone.kept;
      written = record {
        words = record { words = words; encoded = (words, [], sym (append-nil words), encoded, refl); count_is = size; front = front };
        shown = refl;
      };
    }

-- ---- the call

pub done_or_left : (taken : Bool) (up : UpState) (byte offset : ℕ) (old : List ℕ) (outcome : ByteOutcome) (new : List ℕ) (after : UpState)
    → most_words up ≤ length old → IsAcceptedOrLeft taken up byte offset old outcome new after
    → IsDoneOrLeft taken up byte offset old outcome new after
done_or_left true up byte offset old outcome new after fits accepted =
    answered up byte offset old outcome new after fits accepted.0 accepted.1
done_or_left false up byte offset old outcome new after fits left = left

-- the size of the buffer stays the most that a byte may need, and the translator sound
pub sound_or_left : ExclusivesStayWithinTheirLimit → (taken : Bool) (up : UpState) (byte offset : ℕ) (old : List ℕ) (outcome : ByteOutcome)
    (new : List ℕ) (after : UpState) (size : ℕ) → size ≡ most_words up → IsSound up
    → IsAcceptedOrLeft taken up byte offset old outcome new after → (size ≡ most_words after) × IsSound after
sound_or_left law true up byte offset old outcome new after size same sound accepted =
    let stays = stays_within law up offset byte sound.within in
    subst (λ state. (size ≡ most_words state) × IsSound state) (sym accepted.1) (
      same ∙ sym stays.0,
      sound_after law up offset byte sound accepted.0.keeps,
    )
sound_or_left law false up byte offset old outcome new after size same sound left =
    subst (λ state. (size ≡ most_words state) × IsSound state) (sym left.1) (same, sound)
