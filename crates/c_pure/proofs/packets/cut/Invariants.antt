use Rattle.std.proofs.Common.{◌-◌, length}
use Rattle.c_pure.proofs.CutLaws.{AreSoFar}
use Rattle.c_pure.proofs.packets.cut.Given as goal

abbrev pub invariant-loop-packet : goal.invariant-loop-packet
invariant-loop-packet l = AreSoFar l.order l.bytes l.fn.words l.taken l.written l.words

abbrev pub decreases-loop-packet : goal.decreases-loop-packet
decreases-loop-packet l = length l.bytes - l.taken
