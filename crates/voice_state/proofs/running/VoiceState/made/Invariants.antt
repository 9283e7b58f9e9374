use Rattle.std.proofs.Common.{◌≡◌, length, All}
use Rattle.midi_meaning.specs.Messages.{as_they_come, raised, start}
use Rattle.voice_state.specs.Kept.{KeepsGroup}
use Rattle.voice_state.specs.Rooms.{ChannelsHaveRoom}
use Rattle.voice_state.proofs.running.VoiceState.made.Given as goal

abbrev pub invariant-loop-index : goal.invariant-loop-index
invariant-loop-index l =
    (length l.groups.items ≡ l.index) ×
    All (λ group. KeepsGroup as_they_come group (start as_they_come)) l.groups.items ×
    All (λ group. KeepsGroup raised group (start raised)) l.groups.items ×
    All (ChannelsHaveRoom l.room) l.groups.items
