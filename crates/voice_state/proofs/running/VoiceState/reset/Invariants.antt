use Rattle.std.proofs.Common.{◌≡◌, ◌<◌, ℕ, length, slice_index_or}
use Rattle.midi_meaning.specs.Messages.{as_they_come, raised, start}
use Rattle.voice_state.specs.Kept.{KeepsGroup, KeptGroup}
use Rattle.voice_state.specs.Rooms.{KeepsAllRooms}
use Rattle.voice_state.proofs.running.VoiceState.reset.Given as goal

abbrev pub invariant-loop-index : goal.invariant-loop-index
invariant-loop-index l =
    let groups = l.self-inside.groups.items in
    (length groups ≡ 16)
    × ((j : ℕ) (other : KeptGroup) → j < l.index → KeepsGroup as_they_come (slice_index_or groups j other) (start as_they_come))
    × ((j : ℕ) (other : KeptGroup) → j < l.index → KeepsGroup raised (slice_index_or groups j other) (start raised))
    × KeepsAllRooms l.initial.self-inside.groups.items groups
