use Rattle.std.proofs.Common.{◌-◌, length}
use Rattle.c_translators.proofs.PacketBlockLaws.{AreSoFar}
use Rattle.c_translators.proofs.down.take_all.Given as goal

abbrev pub invariant-loop-block : goal.invariant-loop-block
invariant-loop-block l = AreSoFar l.fn.down l.fn.offset l.words l.fn.buffer l.fn.pieces l.block l.next l.down l.buffer l.pieces

abbrev pub decreases-loop-block : goal.decreases-loop-block
decreases-loop-block l = length l.words - l.block.taken
