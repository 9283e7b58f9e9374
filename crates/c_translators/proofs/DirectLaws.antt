-- A packet that is accepted, by its outcome.
use Rattle.std.proofs.Common.{◌≡◌, ◌<◌, ◌∙◌, ℕ, Bool, true, false, List, length, refl, sym, Option, Some, None}
use Rattle.std.specs.Prelude.{if◌then◌else◌}
use Rattle.std.specs.Option.{option_map}
use Rattle.ump_grammar.specs.declared.packet.Packet.{Packet}
use Rattle.midi_meaning.specs.declared.listed.Kind.TheVariants as kinds
use Rattle.midi_meaning.specs.declared.listed.Listed.{Listed}
use Rattle.down_translator.specs.declared.carried.Carried.{Carried}
use Rattle.down_translator.specs.declared.carried.LentLine.{LentLine}
use Rattle.down_translator.specs.declared.lowered.LoweredMessage.{LoweredMessage}
use Rattle.down_translator.specs.declared.shortened.ShortenedMessage.{ShortenedMessage}
use Rattle.down_translator.specs.Carried.{lane_in, line_in, listed_by}
use Rattle.down_translator.specs.Held.{DownState}
use Rattle.down_translator.specs.Lowered.{IsAnsweredAs, IsDirectStep, IsShortenedStep, attribute_line, lowered_bytes, shortened_bytes}
use Rattle.down_translator.specs.Step.{IsStep}
use Rattle.c_answers.specs.Fronts.{with_front}
use Rattle.c_translators.specs.Down.{IsAccepted}
use Rattle.c_translators.specs.Pieces.{piece_shown}
use Rattle.c_translators.specs.declared.piece.Piece.{Piece}

pub step_carried : (state : DownState) (offset : ℕ) (packet : Packet) (carried : Carried) (lane : ℕ) (line : Option Listed)
    (old new : List ℕ) (piece : Piece) →
    IsStep state offset packet carried → lane ≡ lane_in carried → line ≡ line_in carried → new ≡ with_front carried.piece.now old →
    piece ≡ piece_shown (length carried.piece.now) lane line → IsAccepted state offset packet old piece new
step_carried state offset packet carried lane line old new piece step lane_is line_is front shown =
    record {
      accepted = step.accepted;
      shown = shown ∙ (λ i. piece_shown (length (step.piece i)) ((lane_is ∙ step.lane) i) ((line_is ∙ step.line) i));
      front = front ∙ (λ i. with_front (step.piece i) old);
    }

-- ---- a message that alone carries its packet

module _ (offset lane : ℕ) (bytes : List ℕ) (left_out : Bool) (below : lane < 16) where
  abbrev line_at : Bool → Option LentLine
  line_at left_out =
      if left_out
      then Some (record { offset = offset; group = Some (record { number = lane; below = below }); kind = kinds.NoteAttribute })
      else None

  -- an answer with these bytes
  abbrev carried_as : Carried
  carried_as =
      record {
        piece = record { ref_ptr = (0, 0); now = bytes };
        lane = record { number = lane; below = below };
        line = line_at left_out;
      }

  line_told : (left_out : Bool) → option_map listed_by (line_at left_out) ≡ attribute_line offset lane left_out
  line_told true = refl
  line_told false = refl

  is_carried_as : IsAnsweredAs offset lane bytes left_out carried_as
  is_carried_as = record { piece = refl; lane = refl; line = line_told left_out }

pub direct_carried : (state : DownState) (offset : ℕ) (packet : Packet) (m : LoweredMessage) (old new : List ℕ) (piece : Piece)
    → IsDirectStep state packet m →
    new ≡ with_front (lowered_bytes m) old
    → piece ≡ piece_shown (length (lowered_bytes m)) m.lane (attribute_line offset m.lane m.has_attribute) →
    IsAccepted state offset packet old piece new
direct_carried state offset packet m old new piece whole front shown =
    let bytes : List ℕ = lowered_bytes m in
    let same = is_carried_as offset m.lane bytes m.has_attribute whole.lane in
    let carried : Carried = carried_as offset m.lane bytes m.has_attribute whole.lane in
    step_carried state offset packet carried m.lane (attribute_line offset m.lane m.has_attribute) old new piece
    (whole.step offset carried same) refl (sym same.line) front shown

pub shortened_carried : (state behind : DownState) (offset : ℕ) (packet : Packet) (m : ShortenedMessage) (old new : List ℕ)
    (piece : Piece)
    → IsShortenedStep state packet m behind →
    new ≡ with_front (shortened_bytes m) old
    → piece ≡ piece_shown (length (shortened_bytes m)) m.lane (attribute_line offset m.lane m.has_attribute) →
    IsAccepted state offset packet old piece new
shortened_carried state behind offset packet m old new piece whole front shown =
    let bytes : List ℕ = shortened_bytes m in
    let same = is_carried_as offset m.lane bytes m.has_attribute whole.lane in
    let carried : Carried = carried_as offset m.lane bytes m.has_attribute whole.lane in
    step_carried state offset packet carried m.lane (attribute_line offset m.lane m.has_attribute) old new piece
    (whole.step offset carried same) refl (sym same.line) front shown
