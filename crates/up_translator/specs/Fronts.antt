-- The outcome of a byte that is taken alone, and of several that are taken at once, by the translator's
-- state. Bytes are listed oldest first.
use Rattle.std.specs.Prelude.{◌≡◌, ◌<◌, ◌≤◌, ℕ, ◌+◌, List, [], ◌∷◌, length, take, Bool, true, false, Some, None, IfSome}
use Rattle.ump_grammar.specs.declared.packet.Packet.{Packet}
use Rattle.encoded_packets.specs.declared.direct_message.DirectMessage.{DirectMessage}
use Rattle.midi1_bytes.specs.Fronts.{front_voice}
use Rattle.midi1_bytes.specs.Messages.{voice}
use Rattle.midi1_bytes.specs.Steps.{Step, held, completes}
use Rattle.midi_meaning.specs.State.{GroupState}
use Rattle.midi_meaning.specs.Raising.{raised_step}
use Rattle.midi_meaning.specs.StepListing.{kinds_up}
use Rattle.midi_meaning.specs.UpRefusal.{refusal_of_step}
use Rattle.param_collector.specs.Holding.{Holding}
use Rattle.param_collector.specs.Keeps.{Keeps}
use Rattle.up_translator.specs.Direct.{goes_direct}
use Rattle.up_translator.specs.DirectWords.{IsRaisedDirect, packet_of}
use Rattle.up_translator.specs.Held.{UpState, KeepsAfter, step_in, up_after}
use Rattle.up_translator.specs.declared.up.DirectStep.{DirectStep}
use Rattle.up_translator.specs.declared.up.DirectStep.TheVariants as direct

-- A step is accepted in the group, and these packets and no line are raised of it from each state that is
-- kept; each is kept after it, as it then is.
pub record RaisesStepAlone (holding : Holding) (group offset : ℕ) (step : Step) (packets : List Packet) : Type 0 where
  pub accepted : refusal_of_step step ≡ None
  pub packets_of : (state : GroupState) → Keeps holding state → raised_step holding.paired state group step ≡ packets
  pub unlisted : (state : GroupState) → Keeps holding state → kinds_up state step offset ≡ []
  pub kept : KeepsAfter holding step

-- so is the step of a byte
abbrev pub RaisesAlone : UpState → ℕ → ℕ → List Packet → Type 0
RaisesAlone up offset byte packets = RaisesStepAlone up.holding up.group offset (step_in up offset byte) packets

-- a step is held, or completes a message that is raised alone
abbrev pub is_direct : Bool → Step → Bool
is_direct paired held = true
is_direct paired (completes (voice message)) = goes_direct (Some paired) message
is_direct paired _ = false

-- Such a byte is taken: of it these packets and no line are raised.
pub record TakesAlone (up : UpState) (offset byte : ℕ) (packets : List Packet) (new : UpState) : Type 0 where
  pub direct : is_direct up.holding.paired (step_in up offset byte) ≡ true
  pub alone : RaisesAlone up offset byte packets
  pub after : new ≡ up_after up offset byte

-- One byte is taken, and nothing is raised of it, or this direct message alone. It isn't taken exactly when it is
-- neither held nor completes a message that is raised alone.
abbrev pub IsDirect : DirectStep → UpState → ℕ → ℕ → UpState → Type 0
IsDirect direct.Held up offset byte new = TakesAlone up offset byte [] new
IsDirect (direct.Message message) up offset byte new = IsRaisedDirect message × TakesAlone up offset byte (packet_of message ∷ []) new
IsDirect direct.Other up offset byte new = (is_direct up.holding.paired (step_in up offset byte) ≡ false) × (new ≡ up)

-- Nothing is raised of any of these bytes, the first of them at this offset; and the state after the last
-- of them.
abbrev pub RaiseNothing : List ℕ → UpState → ℕ → UpState → Type 0
RaiseNothing [] up offset new = new ≡ up
RaiseNothing (byte ∷ more) up offset new =
    RaisesAlone up offset byte [] × RaiseNothing more (up_after up offset byte) (offset + 1) new

-- Nothing is raised of these bytes, the first of them at this offset, but this packet of the last; and what
-- is held after that.
abbrev pub RaiseOne : List ℕ → UpState → ℕ → Packet → UpState → Type 0
RaiseOne [] up offset packet new = ⊥
RaiseOne (byte ∷ []) up offset packet new = RaisesAlone up offset byte (packet ∷ []) × (new ≡ up_after up offset byte)
RaiseOne (byte ∷ next ∷ more) up offset packet new =
    RaisesAlone up offset byte [] × RaiseOne (next ∷ more) (up_after up offset byte) (offset + 1) packet new

-- The first `count` of these bytes are a message that is raised to this direct one, wherever they stand in
-- the stream.
pub record IsDirectFront (up : UpState) (bytes : List ℕ) (message : DirectMessage) (count : ℕ) (new : UpState) : Type 0 where
  pub some : 0 < count
  pub within : count ≤ length bytes
  pub raised_direct : IsRaisedDirect message
  pub raised : (offset : ℕ) → RaiseOne (take count bytes) up offset (packet_of message) new

-- The voice message at the front of these bytes, if there is one, isn't raised alone: it takes or changes what
-- control changes set.
abbrev pub HasNoDirectFront : UpState → List ℕ → Type 0
HasNoDirectFront up bytes =
    IfSome (front_voice up.parsing bytes) (λ message. goes_direct (Some up.holding.paired) message ≡ false)
