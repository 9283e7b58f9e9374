-- The MIDI 2.0 packets for the messages of a MIDI 1.0 stream (M2-104-UM, translation from MIDI 1.0;
-- M2-115-U). Each message is raised from the state before it.
use Rattle.std.specs.Prelude.{ℕ, ◌-◌, ◌*◌, ◌==◌, if◌then◌else◌, zero, suc, List, [], ◌∷◌, ◌++◌, map, reverse, Option, Some, None, Bool}
use Rattle.std.specs.Option.{option_and_then}
use Rattle.std.specs.Fork.{slice_chunk}
use Rattle.voice_messages.specs.declared.voice1.Voice1.{Voice1}
use Rattle.voice_messages.specs.declared.voice1.Voice1.TheVariants as voice1
use Rattle.voice_messages.specs.declared.voice2.Param.{Param}
use Rattle.voice_messages.specs.declared.voice2.Voice2.{Voice2}
use Rattle.voice_messages.specs.declared.voice2.Voice2.TheVariants as voice2
use Rattle.ump_grammar.specs.declared.packet.Packet.{Packet}
use Rattle.ump_grammar.specs.declared.packet.Packet.TheVariants as packet
use Rattle.bit_scaling.specs.Scaling.{up}
use Rattle.sysex_groups.specs.Cut.{part_count, form_at}
use Rattle.midi1_bytes.specs.Messages.{Message, voice, common, exclusive, real_time}
use Rattle.midi1_bytes.specs.Stream.{Room}
use Rattle.midi1_bytes.specs.Steps.{Step, completed_by, step_of}
use Rattle.midi_meaning.specs.Registers.{selected, bank_of}
use Rattle.midi_meaning.specs.Controllers.{Role, data_msb, data_lsb, reset_all, channel_mode, coarse, fine, plain, role_of, pairing}
use Rattle.midi_meaning.specs.State.{Channel, GroupState}
use Rattle.midi_meaning.specs.Messages.{as_they_come, with_new_lsb, channel_of, meaning1}

-- ---- voice messages

-- the value of the selected parameter, if one is selected and has one
abbrev pub selected_value : Channel → Option ℕ
selected_value state = option_and_then state.params (selected state.registers)

-- The selected parameter with its new value of fourteen bits. Own rules: each data entry is a packet of its
-- own, and is none if no parameter is selected.
abbrev pub raised_entry : ℕ → Option Param → ℕ → List Voice2
raised_entry channel None value = []
raised_entry channel (Some param) value = voice2.Set channel param (up value 14 32) ∷ []

-- Own rule: the MSB and the LSB of a pair are one packet each of the controller with its new value of
-- fourteen bits.
abbrev pub raised_pair : ℕ → ℕ → ℕ → List Voice2
raised_pair channel index value = voice2.Control channel index (up value 14 32) ∷ []

-- Banks and parameter numbers are kept for the program change or data entry that takes them. Own rule: data
-- increment and decrement give none; they are refused before.
abbrev pub raised_control : Channel → Role → ℕ → ℕ → ℕ → List Voice2
raised_control state data_msb channel index value = raised_entry channel (selected state.registers) (value * 128)
raised_control state data_lsb channel index value =
    raised_entry channel (selected state.registers) (with_new_lsb as_they_come (selected_value state) value)
raised_control state reset_all channel index value = voice2.Control channel index (up value 7 32) ∷ []
raised_control state channel_mode channel index value = voice2.Control channel index (up value 7 32) ∷ []
raised_control state coarse channel index value = raised_pair channel index (value * 128)
raised_control state fine channel index value =
    raised_pair channel (index - 32) (with_new_lsb as_they_come (state.controllers (index - 32)) value)
raised_control state plain channel index value = voice2.Control channel index (up value 7 32) ∷ []
raised_control state _ channel index value = []

-- a note on of velocity 0 is a note off; own rule: of velocity 8000
abbrev pub raised_note_on : ℕ → ℕ → ℕ → Voice2
raised_note_on channel note velocity =
    if velocity == 0 then voice2.NoteOff channel note 0x8000 0 0
    else voice2.NoteOn channel note (up velocity 7 16) 0 0

-- ---- exclusives

-- packet k of those into which a payload is cut
abbrev pub exclusive_packet : ℕ → List ℕ → ℕ → Packet
exclusive_packet group payload k = packet.Exclusive group (form_at (part_count payload) k) (slice_chunk payload 6 k)

-- the first k of them
abbrev pub first_exclusive_packets : ℕ → List ℕ → ℕ → List Packet
first_exclusive_packets group payload zero = []
first_exclusive_packets group payload (suc k) = first_exclusive_packets group payload k ++ exclusive_packet group payload k ∷ []

abbrev pub exclusive_packets : ℕ → List ℕ → List Packet
exclusive_packets group payload = first_exclusive_packets group payload (part_count payload)

-- ---- with paired controllers or without

module _ (paired : Bool) where
  -- from the state of its channel
  abbrev pub raised_voice : Channel → Voice1 → List Voice2
  raised_voice state (voice1.NoteOff channel note velocity) = voice2.NoteOff channel note (up velocity 7 16) 0 0 ∷ []
  raised_voice state (voice1.NoteOn channel note velocity) = raised_note_on channel note velocity ∷ []
  raised_voice state (voice1.PolyPressure channel note value) = voice2.PolyPressure channel note (up value 7 32) ∷ []
  raised_voice state (voice1.Control channel index value) = raised_control state (pairing paired (role_of index)) channel index value
  raised_voice state (voice1.Program channel program) = voice2.Program channel program (bank_of state.registers) ∷ []
  raised_voice state (voice1.Pressure channel value) = voice2.Pressure channel (up value 7 32) ∷ []
  raised_voice state (voice1.Bend channel value) = voice2.Bend channel (up value 14 32) ∷ []

  -- ---- all messages

  -- the packets of a message in a group, from the state before it
  abbrev pub raised_message : GroupState → ℕ → Message → List Packet
  raised_message state group (voice message) = map (packet.Voice2 group) (raised_voice (state.channels (channel_of message)) message)
  raised_message state group (common message) = packet.System group message ∷ []
  raised_message state group (real_time message) = packet.System group message ∷ []
  raised_message state group (exclusive bytes) = exclusive_packets group bytes

  abbrev pub raised_completed : GroupState → ℕ → Option Message → List Packet
  raised_completed state group None = []
  raised_completed state group (Some message) = raised_message state group message

  -- the packets of the message that a step completes, from the state before it
  abbrev pub raised_step : GroupState → ℕ → Step → List Packet
  raised_step state group step = raised_completed state group (completed_by step)

  -- ---- of the bytes of a stream, `past` being those so far, newest first

  -- the packets of one more byte
  abbrev pub packets_at : Room → ℕ → List ℕ → ℕ → List Packet
  packets_at room group past byte = raised_step (meaning1 paired past) group (step_of room past byte)

  -- the packets of all bytes, in the order in which they come
  abbrev pub packets_up : Room → ℕ → List ℕ → List Packet
  packets_up room group [] = []
  packets_up room group (byte ∷ past) = packets_up room group past ++ packets_at room group past byte

  -- the packets of bytes, both in the order in which they come
  abbrev pub packets_of_bytes : Room → ℕ → List ℕ → List Packet
  packets_of_bytes room group bytes = packets_up room group (reverse bytes)
