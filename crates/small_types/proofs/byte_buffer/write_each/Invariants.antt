use Rattle.std.proofs.Common.{◌≡◌, ◌+◌, ◌++◌, length, take}
use Rattle.small_types.proofs.byte_buffer.write_each.Given as goal

abbrev pub invariant-loop-index : goal.invariant-loop-index
invariant-loop-index l =
    (take (l.start + l.index) l.cells ≡ take l.start l.initial.cells ++ take l.index l.bytes) × (length l.cells ≡ length l.initial.cells)
