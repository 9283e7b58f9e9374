use Rattle.std.proofs.Common.{◌-◌, length}
use Rattle.c_streams.proofs.JoinLaws.{AreSoFar}
use Rattle.c_streams.proofs.sysex8.take_all.Given as goal

abbrev pub invariant-loop-block : goal.invariant-loop-block
invariant-loop-block l =
    AreSoFar l.fn.streams l.fn.offset l.words l.fn.buffer l.fn.parts l.block l.next l.streams l.buffer l.parts

abbrev pub decreases-loop-block : goal.decreases-loop-block
decreases-loop-block l = length l.words - l.block.taken
