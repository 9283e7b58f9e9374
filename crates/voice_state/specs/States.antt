-- The states of the groups of a stream, and what is left of them after one more message or packet. Own rule:
-- controllers aren't paired.
use Rattle.std.specs.Prelude.{ℕ, ◌==◌, if◌then◌else◌, Bool, true, false, List, Option}
use Rattle.voice_messages.specs.declared.voice1.Voice1.{Voice1}
use Rattle.voice_messages.specs.declared.voice2.Voice2.{Voice2}
use Rattle.ump_grammar.specs.declared.packet.Packet.{Packet}
use Rattle.midi1_bytes.specs.Messages.{Message, real_time}
use Rattle.midi_meaning.specs.State.{GroupState, at_channel}
use Rattle.midi_meaning.specs.Messages.{Scale, as_they_come, channel_of, start, step1, voice_at}
use Rattle.midi_meaning.specs.Packets.{channel2, step2, voice2_at}
use Rattle.midi_meaning.specs.Parts.{group_of, is_group}

abbrev pub States : Type 0
States = ℕ → GroupState

-- before the first message or packet
abbrev pub first_states : Scale → States
first_states scale = λ group. start scale

abbrev pub at_group : ℕ → (GroupState → GroupState) → States → States
at_group group change states = λ other. if group == other then change (states other) else states other

-- after a channel voice message of either protocol
abbrev pub after_voice1 : Scale → Voice1 → GroupState → GroupState
after_voice1 scale message state = at_channel (channel_of message) (voice_at scale message) state

abbrev pub after_voice2 : Voice2 → GroupState → GroupState
after_voice2 message state = at_channel (channel2 message) (voice2_at false message) state

-- after a message of MIDI 1.0 in a group
abbrev pub after_message : ℕ → Message → States → States
after_message group message states = at_group group (λ state. step1 false state message) states

-- after a packet, with the bytes of the exclusive that it ends, if it ends one
abbrev pub after_packet : Packet → Option (List ℕ) → States → States
after_packet packet whole states =
    λ group. if is_group (group_of packet) group then step2 false (states group) packet whole else states group

-- whether a message is counted with the Real Time messages
abbrev pub is_real_time : Message → Bool
is_real_time (real_time message) = true
is_real_time _ = false

-- The states of a MIDI 1.0 stream, which has no groups: all its messages are in group 0 (own rule).
abbrev pub states_of_stream : GroupState → States
states_of_stream state = λ group. if 0 == group then state else start as_they_come
