-- Messages that are raised alone, whatever came before (M2-104-UM, translation from MIDI 1.0).
use Rattle.std.specs.Prelude.{◌≡◌, ◌&&◌, ◌==◌, ◌-◌, ◌*◌, ◌^◌, nat_lt, ℕ, Bool, true, false, if◌then◌else◌, [], ◌∷◌, Option, Some, is_some}
use Rattle.voice_messages.specs.declared.voice1.Voice1.{Voice1}
use Rattle.voice_messages.specs.declared.voice1.Voice1.TheVariants as voice1
use Rattle.voice_messages.specs.declared.voice2.Voice2.{Voice2}
use Rattle.bit_scaling.specs.Scaling.{up}
use Rattle.midi1_bytes.specs.Messages.{fourteen_bits}
use Rattle.encoded_packets.specs.declared.direct_message.DirectMessage.{DirectMessage}
use Rattle.midi_meaning.specs.Controllers.{is_direct_in}
use Rattle.midi_meaning.specs.State.{Channel}
use Rattle.midi_meaning.specs.Raising.{raised_voice}

-- a message that neither takes nor changes a register, nor what is kept of parameters and pairs
abbrev pub goes_direct : Option Bool → Voice1 → Bool
goes_direct paired (voice1.Control channel index value) = is_direct_in paired index
goes_direct paired (voice1.Program channel program) = false
goes_direct paired _ = is_some paired

-- it is raised to this one message, whatever came before
abbrev pub RaisesTo : Voice1 → Voice2 → Type 0
RaisesTo message to =
    (paired : Bool) (channel : Channel) → goes_direct (Some paired) message ≡ true → raised_voice paired channel message ≡ to ∷ []

-- ---- the fields of that message, by the opcode of the status byte

-- the value: a velocity is the upper half
abbrev pub value_by : ℕ → ℕ → ℕ → ℕ
value_by opcode first second =
    if opcode == 0xE then up (fourteen_bits first second) 14 32
    else if nat_lt opcode 0xA then up second 7 16 * 2 ^ 16
    else up (if opcode == 0xD then first else second) 7 32

-- a note on of velocity 0
abbrev pub is_silent : ℕ → ℕ → Bool
is_silent opcode second = opcode == 0x9 && second == 0

abbrev pub raised_by : ℕ → ℕ → ℕ → ℕ → ℕ → DirectMessage
raised_by opcode group status first second = record {
  group = group;
  status = if is_silent opcode second then status - 16 else status;
  index = if nat_lt opcode 0xD then first else 0;
  attribute_type = 0;
  value = if is_silent opcode second then 2 ^ 31 else value_by opcode first second;
}
