use Rattle.std.proofs.Common.{◌≡◌, ◌+◌, ◌-◌}
use Rattle.ci_initiator.specs.Watching.{first_unnamed}
use Rattle.ci_initiator.proofs.watching.first_unnamed.Given as goal

abbrev pub invariant-loop-k : goal.invariant-loop-k
invariant-loop-k l = first_unnamed l.setup.blocks (l.tries - l.k) (l.k + 1) ≡ first_unnamed l.setup.blocks l.tries 1
