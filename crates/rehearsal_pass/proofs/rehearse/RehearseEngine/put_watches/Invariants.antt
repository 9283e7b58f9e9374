use Rattle.std.proofs.Common.{◌≡◌, take}
use Rattle.pass_loop.specs.Places.{over_puts}
use Rattle.pass_loop.specs.Each.{for_each}
use Rattle.rehearsal_pass.specs.Rehearse.{held_line}
use Rattle.rehearsal_pass.proofs.rehearse.RehearseEngine.put_watches.Given as goal

abbrev pub invariant-loop-k : goal.invariant-loop-k
invariant-loop-k g l =
    g.O.Outputs.places l.outputs
    ≡ over_puts (for_each held_line 0 (take l.k l.self.rehearsal.initiator.watched)) (g.O.Outputs.places l.fn.outputs)
