-- What holds of all streams of bytes, which are listed newest first, with paired controllers or without.
use Rattle.std.specs.Prelude.{◌≡◌, ℕ, Bool, List, [], ◌∷◌, length, map, Some, Result}
use Rattle.std.specs.Option.{option_map}
use Rattle.midi1_bytes.specs.Parsing.{open_of}
use Rattle.ump_grammar.specs.declared.packet.Packet.{Packet}
use Rattle.listing_terms.specs.declared.listed.BadStep.{BadStep}
use Rattle.midi_meaning.specs.StepListing.{kinds_at_end, line_up, open_pair}
use Rattle.midi_meaning.specs.UpRefusal.{AreAcceptedUp, AreStepsWithinRoom}
use Rattle.up_translator.specs.declared.raised.Raised.{Raised}
use Rattle.up_translator.specs.Answers.{IsAnswerAt, IsRaisedAloneAt}
use Rattle.up_translator.specs.Fronts.{RaisesAlone}
use Rattle.up_translator.specs.Held.{UpState, new_up, up_after}
use Rattle.up_translator.specs.Recording.{HoldsUp, up_over}
use Rattle.up_translator.specs.Step.{Raises}

pub record RaisedBytesAreTheDefinition (paired : Bool) : Type 0 where
  pub new : (room group : ℕ) → HoldsUp paired room group [] (new_up paired room group)
  pub answer : (room group : ℕ) (past : List ℕ) (byte : ℕ) (up : UpState) (result : Result Raised BadStep) →
      HoldsUp paired room group past up → Raises up (length past) byte result → IsAnswerAt paired room group past byte result
  pub after : (room group : ℕ) (past : List ℕ) (byte : ℕ) (up : UpState) →
      AreStepsWithinRoom room (byte ∷ past) → HoldsUp paired room group past up →
      HoldsUp paired room group (byte ∷ past) (up_after up (length past) byte)
  pub held : (room group : ℕ) (past : List ℕ) → AreStepsWithinRoom room past →
      HoldsUp paired room group past (up_over paired room group past)
  pub alone : (room group : ℕ) (past : List ℕ) (byte : ℕ) (up : UpState) (packets : List Packet) →
      AreAcceptedUp (Some room) past → HoldsUp paired room group past up → RaisesAlone up (length past) byte packets →
      IsRaisedAloneAt paired room group past byte packets ×
      HoldsUp paired room group (byte ∷ past) (up_after up (length past) byte)
  pub end : (room group : ℕ) (past : List ℕ) (up : UpState) → HoldsUp paired room group past up →
      map (line_up up.group)
      (kinds_at_end (option_map (λ begun. (begun.start, begun.kind)) (open_of up.parsing))) ≡
      map (line_up group) (kinds_at_end (open_pair (Some room) past))
