use Rattle.std.proofs.Common.{◌-◌, length}
use Rattle.c_endpoint.proofs.PacketBlockLaws.{AreSoFar}
use Rattle.c_endpoint.proofs.endpoint.take_all.Given as goal

abbrev pub invariant-loop-block : goal.invariant-loop-block
invariant-loop-block l = AreSoFar l.fn.endpoint.held l.fn.offset l.words l.fn.buffer l.fn.replies l.block l.next l.endpoint.held l.buffer l.replies

abbrev pub decreases-loop-block : goal.decreases-loop-block
decreases-loop-block l = length l.words - l.block.taken
