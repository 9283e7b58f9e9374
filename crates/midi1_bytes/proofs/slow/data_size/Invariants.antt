use Rattle.std.proofs.Common.{◌≡◌, length, ◌+◌, ◌≤◌, drop}
use Rattle.midi1_bytes.specs.Stream.{last_data, without_real_time}
use Rattle.midi1_bytes.proofs.slow.data_size.Given as goal

abbrev pub invariant-loop-byte : goal.invariant-loop-byte
invariant-loop-byte l =
    (l.size + length (last_data (without_real_time (drop l.byte-index l.past))) ≡ length (last_data (without_real_time l.past)))
    × (l.size ≤ l.byte-index)
