use Rattle.std.proofs.Common.{◌≡◌, take}
use Rattle.pass_loop.specs.Places.{over_puts}
use Rattle.show_pass.specs.KeptState.{fact_puts}
use Rattle.show_pass.proofs.kept_state.put_facts.Given as goal

abbrev pub invariant-loop-fact : goal.invariant-loop-fact
invariant-loop-fact g l =
    g.O.Outputs.places l.outputs
    ≡ over_puts (fact_puts (take l.fact-index l.facts)) (g.O.Outputs.places l.fn.outputs)
