-- Channel voice messages of the MIDI 1.0 protocol (M2-104-UM, type 2), which are carried by their own bytes.
use Rattle.std.specs.Prelude.{◌≡◌, ◌<◌, ◌/◌, ◌==◌, ◌&&◌, nat_le, if◌then◌else◌, ℕ, Bool, true, false, List}
use Rattle.voice_messages.specs.declared.voice1.Voice1.{Voice1}
use Rattle.voice_messages.specs.declared.voice1.Voice1.TheVariants as voice1
use Rattle.voice_messages.specs.Ranges.{IsVoice1}
use Rattle.midi1_bytes.specs.Messages.{spelled_voice}
use Rattle.midi_meaning.specs.Controllers.{is_direct, pairing, role_of}
use Rattle.ump_grammar.specs.WordFields.{opcode_of, type_of}
use Rattle.ump_grammar.specs.declared.packet.Packet.{Packet}
use Rattle.ump_grammar.specs.declared.packet.Packet.TheVariants as packet
use Rattle.down_translator.specs.declared.lowered.LoweredMessage.{LoweredMessage}
use Rattle.down_translator.specs.LoweredBytes.{lowered_bytes}

abbrev pub is_midi1 : Packet → Bool
is_midi1 (packet.Voice1 group message) = true
is_midi1 _ = false

-- the type and the opcode of one
abbrev pub begins_midi1 : List ℕ → Bool
begins_midi1 words = type_of words == 2 && nat_le 0x8 (opcode_of words) && nat_le (opcode_of words) 0xE

-- the bytes of a message that fits, in the lane of its group
pub record IsMidi1Message (in_group : ℕ) (message : Voice1) (m : LoweredMessage) : Type 0 where
  pub lane : m.lane ≡ in_group
  pub group : in_group < 16
  pub bytes : lowered_bytes m ≡ spelled_voice message
  pub fits : IsVoice1 message
  pub attribute : m.has_attribute ≡ false

-- the message of a packet
abbrev pub CarriesMidi1 : Packet → LoweredMessage → Type 0
CarriesMidi1 (packet.Voice1 group message) m = IsMidi1Message group message m
CarriesMidi1 _ m = ⊥

-- the index of a control change; of other messages that of a direct one
abbrev pub control_index : LoweredMessage → ℕ
control_index m = if m.status / 16 == 0xB then m.first else 64

-- all but a control change that isn't direct
abbrev pub midi1_goes_direct : Bool → Voice1 → Bool
midi1_goes_direct paired (voice1.Control channel index value) = is_direct (pairing paired (role_of index))
midi1_goes_direct paired message = true
