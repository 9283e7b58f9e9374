use Rattle.std.proofs.Common.{◌≡◌, ◌+◌, drop}
use Rattle.midi1_bytes.specs.Fronts.{leading_data}
use Rattle.midi1_bytes.proofs.front.leading_data.Given as goal

abbrev pub invariant-loop-byte : goal.invariant-loop-byte
invariant-loop-byte l =
    (leading_data l.bytes ≡ l.count + leading_data (drop l.byte-index l.bytes)) × (l.count ≡ l.byte-index)
