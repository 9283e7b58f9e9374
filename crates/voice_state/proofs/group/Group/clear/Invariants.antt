use Rattle.std.proofs.Common.{◌≡◌, ◌<◌, ℕ, length, slice_index_or}
use Rattle.midi_meaning.specs.Messages.{as_they_come, raised, start_channel}
use Rattle.voice_state.specs.declared.channel.Channel as kept_channel
use Rattle.voice_state.specs.Kept.{KeepsChannel}
use Rattle.voice_state.proofs.group.Group.clear.Given as goal

abbrev pub invariant-loop-index : goal.invariant-loop-index
invariant-loop-index l =
    let channels = l.self-inside.channels.items in
    (length channels ≡ 16)
    × ((j : ℕ) (other : kept_channel.Channel) → j < l.index
    → KeepsChannel as_they_come (slice_index_or channels j other) (start_channel as_they_come))
    × ((j : ℕ) (other : kept_channel.Channel) → j < l.index
    → KeepsChannel raised (slice_index_or channels j other) (start_channel raised))
    × ((j : ℕ) (other : kept_channel.Channel)
    → (slice_index_or channels j other).room ≡ (slice_index_or l.initial.self-inside.channels.items j other).room)
