use Rattle.std.proofs.Common.{◌≡◌, ◌<◌, ◌+◌, ◌-◌, ◌^◌, false, length}
use Rattle.c_translators.proofs.ByteBlockLaws.{AreSoFar}
use Rattle.c_translators.proofs.up.take_all.Given as goal

abbrev pub invariant-loop-block : goal.invariant-loop-block
invariant-loop-block l =
    AreSoFar l.fn.up l.fn.offset l.bytes l.fn.words l.fn.outcomes l.block l.next l.up l.words l.outcomes
    × (l.has_wrap ≡ false → l.next + (length l.bytes - l.block.taken) < 2 ^ 64)

abbrev pub decreases-loop-block : goal.decreases-loop-block
decreases-loop-block l = length l.bytes - l.block.taken
