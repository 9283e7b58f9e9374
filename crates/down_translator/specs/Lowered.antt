-- Messages of either protocol that one MIDI 1.0 message with their status byte carries (M2-104-UM, default translation).
use Rattle.std.specs.Prelude.{◌<◌, ◌≡◌, ◌==◌, ◌/◌, ◌%◌, ◌^◌, ◌&&◌, not, ℕ, Bool, true, false, if◌then◌else◌, List, Option, Some, None}
use Rattle.voice_messages.specs.declared.voice1.Voice1.{Voice1}
use Rattle.voice_messages.specs.declared.voice1.Voice1.TheVariants as voice1
use Rattle.voice_messages.specs.declared.voice2.Voice2.TheVariants as voice2
use Rattle.bit_scaling.specs.Scaling.{down7, down14, release_down, velocity_down}
use Rattle.encoded_packets.specs.declared.direct_message.DirectMessage.{DirectMessage}
use Rattle.encoded_packets.specs.DirectMessages.{direct_voice, has_direct_kind, kind_by}
use Rattle.encoded_packets.specs.declared.direct_message.DirectKind.{DirectKind}
use Rattle.encoded_packets.specs.declared.direct_message.DirectKind.TheVariants as direct
use Rattle.midi_meaning.specs.Controllers.{is_direct, pairing, role_of}
use Rattle.midi_meaning.specs.declared.listed.Kind.TheVariants as kinds
use Rattle.midi_meaning.specs.declared.listed.Listed.{Listed}
use Rattle.ump_grammar.specs.declared.packet.Packet.{Packet}
use Rattle.ump_grammar.specs.declared.packet.Packet.TheVariants as packet
use Rattle.down_translator.specs.declared.carried.Carried.{Carried}
use Rattle.down_translator.specs.Carried.{lane_in, line_in}
use Rattle.down_translator.specs.Held.{DownState, down_after, paired_of, style_of}
use Rattle.down_translator.specs.KeptLanes.{is_plain, kept_by}
use Rattle.down_translator.specs.declared.statuses.Statuses.TheVariants.{Changes}
use Rattle.down_translator.specs.Step.{IsStep}
pub use Rattle.down_translator.specs.LoweredBytes.{lowered_bytes, shortened_bytes, unless_running}
use Rattle.down_translator.specs.Midi1.{midi1_goes_direct}
use Rattle.down_translator.specs.declared.lowered.LoweredMessage.{LoweredMessage}
use Rattle.down_translator.specs.declared.shortened.ShortenedMessage.{ShortenedMessage}

-- the data bytes, by the kind
abbrev pub first_by : DirectKind → DirectMessage → ℕ
first_by direct.Pressure m = down7 m.value
first_by direct.Bend m = down14 m.value % 128
first_by _ m = m.index

abbrev pub second_by : DirectKind → DirectMessage → Option ℕ
second_by direct.NoteOn m = Some (velocity_down (m.value / 2 ^ 16))
second_by direct.Pressure m = None
second_by _ m = Some (down7 m.value)

-- the MIDI 1.0 message, by the kind
abbrev pub voice_by : DirectKind → DirectMessage → Voice1
voice_by direct.NoteOff m = voice1.NoteOff (m.status % 16) m.index (release_down (m.value / 2 ^ 16))
voice_by direct.NoteOn m = voice1.NoteOn (m.status % 16) m.index (velocity_down (m.value / 2 ^ 16))
voice_by direct.PolyPressure m = voice1.PolyPressure (m.status % 16) m.index (down7 m.value)
voice_by direct.Control m = voice1.Control (m.status % 16) m.index (down7 m.value)
voice_by direct.Pressure m = voice1.Pressure (m.status % 16) (down7 m.value)
voice_by _ m = voice1.Bend (m.status % 16) (down14 m.value)

abbrev pub voice_of : DirectMessage → Voice1
voice_of m = voice_by (kind_by (m.status / 16)) m

-- a note off or on
abbrev pub is_note : DirectKind → Bool
is_note direct.NoteOff = true
is_note direct.NoteOn = true
is_note _ = false

-- it has an attribute if its type is not 0
abbrev pub has_attribute : DirectMessage → Bool
has_attribute m = is_note (kind_by (m.status / 16)) && not (m.attribute_type == 0)

-- its line of the listing, if its packet stands at this offset and it leaves out an attribute
abbrev pub attribute_line : ℕ → ℕ → Bool → Option Listed
attribute_line offset lane left_out =
    if left_out then Some (record { offset = offset; group = Some lane; kind = kinds.NoteAttribute }) else None

-- an answer with these bytes in this lane, and with the line of an attribute that is left out
pub record IsAnsweredAs (offset group : ℕ) (bytes : List ℕ) (left_out : Bool) (carried : Carried) : Type 0 where
  pub piece : carried.piece.now ≡ bytes
  pub lane : lane_in carried ≡ group
  pub line : line_in carried ≡ attribute_line offset group left_out

-- an answer with its bytes, its lane and its line
abbrev pub IsCarriedAs : ℕ → LoweredMessage → Carried → Type 0
IsCarriedAs offset m carried = IsAnsweredAs offset m.lane (lowered_bytes m) m.has_attribute carried

-- the index of a control change; of other messages that of a direct one
abbrev pub index_by : DirectKind → DirectMessage → ℕ
index_by direct.Control m = m.index
index_by _ m = 64

-- a direct message of MIDI 2.0, except for a control change that isn't direct
abbrev pub goes_by : DirectKind → Bool → DirectMessage → Bool
goes_by direct.Control paired m = is_direct (pairing paired (role_of m.index))
goes_by _ paired m = true

abbrev pub message_goes_direct : Bool → DirectMessage → Bool
message_goes_direct paired m = goes_by (kind_by (m.status / 16)) paired m

-- the packet of a direct message
abbrev pub message_packet : DirectMessage → Packet
message_packet m = packet.Voice2 m.group (direct_voice m)

-- a direct message of MIDI 2.0, or a channel voice message of MIDI 1.0, except for a control change that isn't direct
abbrev pub packet_goes_direct : Bool → Packet → Bool
packet_goes_direct paired (packet.Voice1 group message) = midi1_goes_direct paired message
packet_goes_direct paired (packet.Voice2 group (voice2.Control channel index value)) = is_direct (pairing paired (role_of index))
packet_goes_direct paired packet = has_direct_kind packet

-- the packets that one message with all its bytes carries, in plain style
abbrev pub goes_direct : DownState → Packet → Bool
goes_direct state packet = is_plain (style_of state) && packet_goes_direct (paired_of state) packet

-- it is the whole step of a packet at any offset: an answer with its bytes is the packet's, in one of sixteen lanes, and the state stays
-- as it is
pub record IsDirectStep (state : DownState) (packet : Packet) (m : LoweredMessage) : Type 0 where
  pub whole : goes_direct state packet ≡ true
  pub lane : m.lane < 16
  pub step : (offset : ℕ) (carried : Carried) → IsCarriedAs offset m carried → IsStep state offset packet carried
  pub after : (offset : ℕ) → down_after offset packet state ≡ state

-- the packets that one message carries, perhaps without its status byte, in compact style
abbrev pub goes_shortened : DownState → Packet → Bool
goes_shortened state packet = not (is_plain (style_of state)) && packet_goes_direct (paired_of state) packet

-- It is the whole step of a packet at any offset: an answer with its bytes is the packet's, in one of sixteen lanes, and this is the
-- state after it.
pub record IsShortenedStep (state : DownState) (packet : Packet) (m : ShortenedMessage) (behind : DownState) : Type 0 where
  pub whole : goes_shortened state packet ≡ true
  pub lane : m.lane < 16
  pub step : (offset : ℕ) (carried : Carried) → IsAnsweredAs offset m.lane (shortened_bytes m) m.has_attribute carried
      → IsStep state offset packet carried
  pub after : (offset : ℕ) → down_after offset packet state ≡ behind

-- the state after a message with this status byte is written in compact style, which leaves the registers
abbrev pub after_status : ℕ → ℕ → DownState → DownState
after_status lane status state = record {
  exclusives = state.exclusives;
  lanes = kept_by lane (Changes (Some status)) (λ channels. channels) state.lanes;
}
