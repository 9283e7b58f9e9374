use Rattle.std.proofs.Common.{◌≡◌, [], All, OnOk, take}
use Rattle.midi_edge.specs.Adapters.{KeepsEach, unwritten}
use Rattle.midi_edge.proofs.Tried.{TriesFirst}
use Rattle.midi_edge.proofs.adapters.folder_lanes.flush_each.Given as goal

abbrev pub invariant-loop-sink : goal.invariant-loop-sink
invariant-loop-sink g l =
    KeepsEach g.W.Write.contents l.initial.sink-items l.sink-items
    × OnOk l.outcome (All (λ s. unwritten s ≡ []) (take l.sink-index l.sink-items))
    × TriesFirst l.sink-index l.initial.sink-items l.sink-items
