-- When the state of a collector matches the state of a group: the registers, and the MSBs of parameters and
-- pairs.
use Rattle.std.specs.Prelude.{◌≡◌, ℕ, ◌/◌, ◌<◌, Bool, true, false}
use Rattle.std.specs.Option.{unwrap_or}
use Rattle.voice_messages.specs.declared.voice1.Voice1.TheVariants as voice1
use Rattle.voice_messages.specs.declared.voice2.Param.{Param}
use Rattle.voice_messages.specs.Ranges.{IsParam}
use Rattle.midi1_bytes.specs.Messages.{Message, voice}
use Rattle.midi_meaning.specs.Registers.{selected}
use Rattle.midi_meaning.specs.Controllers.{coarse, pairing, role_of}
use Rattle.midi_meaning.specs.State.{Channel, GroupState}
use Rattle.midi_meaning.specs.Messages.{step1}
use Rattle.param_collector.specs.declared.collected.Collected.{Collected}
use Rattle.param_collector.specs.Holding.{Holding, registers_at, msb_at, pair_at}
use Rattle.param_collector.specs.Control.{answer_by}

-- the value of a parameter, 0 if it has none
abbrev pub value_of : Channel → Param → ℕ
value_of channel param = unwrap_or (channel.params param) 0

-- the value of a controller, 0 if it has none
abbrev pub controller_of : Channel → ℕ → ℕ
controller_of channel index = unwrap_or (channel.controllers index) 0

-- The registers of each channel, and the MSB of each parameter's value of fourteen bits. If controllers are
-- paired, also the MSB of each pair's value of fourteen bits.
pub record Keeps (holding : Holding) (group : GroupState) : Type 0 where
  pub registers : (channel : ℕ) → channel < 16 → registers_at holding channel ≡ (group.channels channel).registers
  pub msbs : (channel : ℕ) (param : Param) → channel < 16 → IsParam param
      → msb_at holding channel param ≡ value_of (group.channels channel) param / 128
  pub pairs : (channel index : ℕ) → channel < 16 → pairing holding.paired (role_of index) ≡ coarse →
      pair_at holding channel index ≡ controller_of (group.channels channel) index / 128

-- ---- a control change

-- after a control change, by the meaning of MIDI 1.0
abbrev pub control_step : Bool → GroupState → ℕ → ℕ → ℕ → GroupState
control_step paired group channel index value = step1 paired group (voice (voice1.Control channel index value))

-- The answer by that meaning: to a data entry, the value that the selected parameter has after it; to a half
-- of a pair, the value of that pair.
abbrev pub meant : Bool → GroupState → ℕ → ℕ → ℕ → Collected
meant paired group channel index value =
    let after = (control_step paired group channel index value).channels channel in
    answer_by (pairing paired (role_of index)) index (selected (group.channels channel).registers) (value_of after) (controller_of after)

-- each state that matched before matches after the step, and the answer is the one by that meaning
abbrev pub IsMeant : Holding → Holding → ℕ → ℕ → ℕ → Collected → Type 0
IsMeant old new channel index value answer =
    (group : GroupState) → Keeps old group →
    Keeps new (control_step old.paired group channel index value) × (answer ≡ meant old.paired group channel index value)

-- ---- all other messages

abbrev pub is_control_change : Message → Bool
is_control_change (voice (voice1.Control channel index value)) = true
is_control_change _ = false
