use Rattle.std.proofs.Common.{◌≡◌, true, All, take}
use Rattle.midi_edge.specs.Adapters.{KeepsEach, has_failed_early}
use Rattle.midi_edge.proofs.adapters.folder_lanes.fail_each.Given as goal

abbrev pub invariant-loop-sink : goal.invariant-loop-sink
invariant-loop-sink g l =
    KeepsEach g.W.Write.contents l.initial.sink-items l.sink-items
    × All (λ s. has_failed_early s ≡ true) (take l.sink-index l.sink-items)
