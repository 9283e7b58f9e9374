use Rattle.std.proofs.Common.{◌≡◌, drop}
use Rattle.midi1_bytes.specs.Stream.{last_status, without_real_time}
use Rattle.midi1_bytes.proofs.slow.last_status.Given as goal

abbrev pub invariant-loop-byte : goal.invariant-loop-byte
invariant-loop-byte l = last_status (without_real_time l.past) ≡ last_status (without_real_time (drop l.byte-index l.past))
