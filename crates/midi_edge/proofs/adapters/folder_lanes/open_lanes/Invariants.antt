use Rattle.std.proofs.Common.{◌≡◌, [], All, vec_len}
use Rattle.midi_edge.specs.Adapters.{unwritten}
use Rattle.midi_edge.proofs.adapters.folder_lanes.open_lanes.Given as goal

abbrev pub invariant-loop-lane : goal.invariant-loop-lane
invariant-loop-lane g l = (vec_len l.lanes ≡ l.lane) × All (λ s. unwritten s ≡ []) l.lanes.items
