use Rattle.std.proofs.Common.{◌≡◌, ◌<◌, ℕ, length, get_or}
use Rattle.midi_meaning.specs.LaneState.{new_lane}
use Rattle.down_translator.proofs.kept_lanes.KeptLanes.reset.Given as goal

abbrev pub invariant-loop-lane : goal.invariant-loop-lane
invariant-loop-lane l = (length l.lane-items ≡ 16) × ((k : ℕ) → k < l.lane-index → get_or l.lane-items k new_lane ≡ new_lane)
