use Rattle.std.proofs.Common.{◌≡◌, replicate}
use Rattle.midi_meaning.specs.LaneState.{new_lane}
use Rattle.down_translator.proofs.kept_lanes.KeptLanes.new.Given as goal

abbrev pub invariant-loop : goal.invariant-loop
invariant-loop l = l.lanes.items ≡ replicate l.counter new_lane
