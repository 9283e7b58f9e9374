use Rattle.std.proofs.Common.{ℕ, take, subst}
use Rattle.pass_loop.specs.Runs.{StepsOver}
use Rattle.pass_loop.proofs.RunLaws.{ends_at_first}
use Rattle.pass_loop.proofs.runs.take_some.Goals as goal

pub step-requires-clause-item : goal.step-requires-clause-item
step-requires-clause-item g c = (c.requires.items c.requires.holds.1 (c.args.at, _) c.requires.holds.3).0

pub returns-in-Err-clause-run : goal.returns-in-Err-clause-run
returns-in-Err-clause-run g c = λ first past holds place.
    let S : ℕ → Type 0 =
    λ n. StepsOver (g.E.Engine.work first) (g.E.Engine.Holds first) c.take_run.new.self past (take n c.args.bytes.now)
    (g.O.Outputs.places c.args.outputs.now) (g.O.Outputs.places c.take_run.new.outputs) in
    let none = subst S c.in-Ok-eq0.field-0-test (c.in-Ok-eq0.ensures.run first past holds) in
    ends_at_first (g.E.Engine.work first) (g.E.Engine.Holds first) past c.args.bytes.now c.args.at _ _ _ c.in-Err.end c.requires.some none.1
    place
    (c.in-Err.ensures first past none.0 (c.requires.items past (c.args.at, _) place).1).0
