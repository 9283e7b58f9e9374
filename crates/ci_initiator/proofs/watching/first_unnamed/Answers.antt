use Rattle.std.proofs.Common.{◌-◌, ◌∙◌, sym, arith}
use Rattle.ci_initiator.proofs.SetupLaws.{all-tried, named-here, unnamed-here}
use Rattle.ci_initiator.proofs.watching.first_unnamed.Goals as goal

pub returns-then-not-is_named-clause-value : goal.returns-then-not-is_named-clause-value
returns-then-not-is_named-clause-value c =
    sym (unnamed-here c.args.setup.now.blocks c.loop-k.k (c.args.tries - c.loop-k.k) (sym c.is_named.ensures ∙ c.if-not-is_named.true))
    ∙ c.loop-k.invariant

pub loop-k-preserved : goal.loop-k-preserved
loop-k-preserved c =
    sym (named-here c.args.setup.now.blocks c.args.tries c.loop-k.k c.loop-k-test.true (sym c.is_named.ensures ∙ c.if-not-is_named.false))
    ∙ c.loop-k.invariant

pub returns-clause-value : goal.returns-clause-value
returns-clause-value c =
    sym (all-tried c.args.setup.now.blocks c.args.tries c.loop-k.k (omega (arith, c.loop-k-test.false, c.loop-k.auto.k-end)))
    ∙ c.loop-k.invariant
