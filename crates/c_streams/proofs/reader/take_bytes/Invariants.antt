use Rattle.std.proofs.Common.{◌-◌, length}
use Rattle.c_streams.proofs.ReaderLaws.{AreSoFar}
use Rattle.c_streams.proofs.reader.take_bytes.Given as goal

abbrev pub invariant-loop-block : goal.invariant-loop-block
invariant-loop-block g l =
    AreSoFar g.R.ByteReader.reader l.fn.reader l.fn.offset l.bytes l.fn.buffer l.fn.outcomes l.block l.next l.reader l.buffer l.outcomes

abbrev pub decreases-loop-block : goal.decreases-loop-block
decreases-loop-block g l = length l.bytes - l.block.taken
