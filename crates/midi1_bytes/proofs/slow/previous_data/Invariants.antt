use Rattle.std.proofs.Common.{◌≡◌, slice_index, drop}
use Rattle.midi1_bytes.specs.Stream.{last_data, without_real_time}
use Rattle.midi1_bytes.proofs.slow.previous_data.Given as goal

abbrev pub invariant-loop-byte : goal.invariant-loop-byte
invariant-loop-byte l =
    slice_index (last_data (without_real_time l.past)) 0 ≡ slice_index (last_data (without_real_time (drop l.byte-index l.past))) 0
