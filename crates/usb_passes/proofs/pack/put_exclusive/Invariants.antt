use Rattle.std.proofs.Common.{◌*◌, ◌-◌, length}
use Rattle.usb_passes.proofs.PackLaws.{AreFirst}
use Rattle.usb_passes.proofs.pack.put_exclusive.Given as goal

abbrev pub invariant-loop-event : goal.invariant-loop-event
invariant-loop-event g l =
    AreFirst l.cable l.whole l.k (g.O.Outputs.places l.fn.outputs) (g.O.Outputs.places l.outputs)

abbrev pub decreases-loop-event : goal.decreases-loop-event
decreases-loop-event g l = length l.whole - 3 * l.k
