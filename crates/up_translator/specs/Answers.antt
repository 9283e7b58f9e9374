-- The translator's answer to one more byte of a stream, by all bytes before it, which are listed newest
-- first.
use Rattle.std.specs.Prelude.{◌≡◌, ℕ, Bool, List, [], Some, None, IfSome, Result, Ok, Err}
use Rattle.midi1_bytes.specs.Messages.{AreData}
use Rattle.ump_grammar.specs.declared.packet.Packet.{Packet}
use Rattle.listing_terms.specs.declared.listed.BadStep.{BadStep}
use Rattle.midi_meaning.specs.Raising.{packets_at}
use Rattle.midi_meaning.specs.StepListing.{lines_at}
use Rattle.midi_meaning.specs.UpRefusal.{refusal_up}
use Rattle.up_translator.specs.declared.raised.Raised.{Raised}
use Rattle.listing_terms.specs.ByteLines.{lines_in}
use Rattle.up_translator.specs.Raised.{payload_in, packets_in}

-- the byte is accepted with its packets and its lines
pub record IsRaisedAt (paired : Bool) (room group : ℕ) (past : List ℕ) (byte : ℕ) (raised : Raised) : Type 0 where
  pub accepted : refusal_up (Some room) past byte ≡ None
  pub packets : packets_in raised ≡ packets_at paired (Some room) group past byte
  pub lines : lines_in raised.lines ≡ lines_at paired (Some room) group past byte
  pub data_bytes : IfSome (payload_in raised) AreData

-- the byte is accepted with these packets and no line
pub record IsRaisedAloneAt (paired : Bool) (room group : ℕ) (past : List ℕ) (byte : ℕ) (packets : List Packet) : Type 0 where
  pub accepted : refusal_up (Some room) past byte ≡ None
  pub packets_are : packets_at paired (Some room) group past byte ≡ packets
  pub unlisted : lines_at paired (Some room) group past byte ≡ []

-- It is refused exactly when there is a reason to refuse it, and for that reason.
abbrev pub IsAnswerAt : Bool → ℕ → ℕ → List ℕ → ℕ → Result Raised BadStep → Type 0
IsAnswerAt paired room group past byte (Ok raised) = IsRaisedAt paired room group past byte raised
IsAnswerAt paired room group past byte (Err bad) = refusal_up (Some room) past byte ≡ Some bad
