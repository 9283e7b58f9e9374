-- The translator's answer to a byte, by its state.
use Rattle.std.specs.Prelude.{◌≡◌, ℕ, Bool, List, map, Option, Some, None, IfSome, Result, Ok, Err}
use Rattle.ump_grammar.specs.Ranges.{IsPacket}
use Rattle.midi1_bytes.specs.Messages.{Message, exclusive, AreData}
use Rattle.midi1_bytes.specs.Steps.{Step, completed_by}
use Rattle.listing_terms.specs.declared.listed.BadStep.{BadStep}
use Rattle.midi_meaning.specs.State.{GroupState}
use Rattle.midi_meaning.specs.Raising.{raised_step}
use Rattle.midi_meaning.specs.StepListing.{kinds_up, line_up}
use Rattle.midi_meaning.specs.UpRefusal.{refusal_of_step}
use Rattle.param_collector.specs.Holding.{Holding}
use Rattle.param_collector.specs.Keeps.{Keeps}
use Rattle.up_translator.specs.declared.raised.Raised.{Raised}
use Rattle.listing_terms.specs.ByteLines.{lines_in, IsInOrder}
use Rattle.up_translator.specs.Raised.{group_in, packet_in, payload_in, packets_in, IsApart}
use Rattle.up_translator.specs.Held.{UpState, step_in}

-- the packets and the lines of a step, from the state of the group before it, with paired controllers or
-- without
pub record IsRaised (paired : Bool) (state : GroupState) (group offset : ℕ) (step : Step) (raised : Raised) : Type 0 where
  pub packets : packets_in raised ≡ raised_step paired state group step
  pub lines : lines_in raised.lines ≡ map (line_up group) (kinds_up state step offset)

-- the bytes of the exclusive that a step completes
abbrev pub payload_by : Option Message → Option (List ℕ)
payload_by (Some (exclusive bytes)) = Some bytes
payload_by _ = None

-- A step is accepted in the group, with the payload of its exclusive, which has data bytes alone, and with
-- what is raised of it from each state that is kept; its packet is one that some words spell.
pub record Accepts (holding : Holding) (group offset : ℕ) (step : Step) (raised : Raised) : Type 0 where
  pub accepted : refusal_of_step step ≡ None
  pub grouped : group_in raised ≡ group
  pub apart : IsApart raised
  pub in_order : IsInOrder raised.lines
  pub payload : payload_in raised ≡ payload_by (completed_by step)
  pub data_bytes : IfSome (payload_in raised) AreData
  pub spelled : IfSome (packet_in raised) IsPacket
  pub raised_of : (state : GroupState) → Keeps holding state → IsRaised holding.paired state group offset step raised

-- It is refused exactly when there is a reason to refuse it, and for that reason.
abbrev pub RaisesStep : Holding → ℕ → ℕ → Step → Result Raised BadStep → Type 0
RaisesStep holding group offset step (Ok raised) = Accepts holding group offset step raised
RaisesStep holding group offset step (Err bad) = refusal_of_step step ≡ Some bad

abbrev pub Raises : UpState → ℕ → ℕ → Result Raised BadStep → Type 0
Raises up offset byte result = RaisesStep up.holding up.group offset (step_in up offset byte) result
