use Rattle.std.proofs.Common.{◌≡◌, length, All}
use Rattle.midi_meaning.specs.Messages.{as_they_come, raised, start_channel}
use Rattle.voice_state.specs.Kept.{KeepsChannel}
use Rattle.voice_state.proofs.group.Group.new.Given as goal

abbrev pub invariant-loop : goal.invariant-loop
invariant-loop l =
    (length l.channels.items ≡ l.counter) ×
    All (λ channel. KeepsChannel as_they_come channel (start_channel as_they_come)) l.channels.items ×
    All (λ channel. KeepsChannel raised channel (start_channel raised)) l.channels.items ×
    All (λ channel. channel.room ≡ l.room) l.channels.items
