use Rattle.std.proofs.Common.{◌≡◌, length, ◌+◌, drop}
use Rattle.midi1_bytes.specs.Stream.{offset_before}
use Rattle.midi1_bytes.proofs.slow.offset_before.Given as goal

abbrev pub invariant-loop-byte : goal.invariant-loop-byte
invariant-loop-byte l =
    (offset_before l.fn.size l.past ≡ offset_before l.left (drop l.byte-index l.past)) × (l.offset + l.byte-index ≡ length l.past)
