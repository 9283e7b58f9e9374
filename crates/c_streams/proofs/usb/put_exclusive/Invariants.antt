use Rattle.std.proofs.Common.{◌*◌, ◌-◌, length}
use Rattle.c_streams.proofs.PackedLaws.{AreFirst}
use Rattle.c_streams.proofs.usb.put_exclusive.Given as goal

abbrev pub invariant-loop-event : goal.invariant-loop-event
invariant-loop-event l = AreFirst l.cable l.whole l.k l.fn.buffer l.buffer

abbrev pub decreases-loop-event : goal.decreases-loop-event
decreases-loop-event l = length l.whole - 3 * l.k
