use Rattle.std.proofs.Common.{◌≡◌}
use Rattle.ci_responder.proofs.ResetLaws.{switched_to}
use Rattle.ci_responder.proofs.reset.reset_states.Given as goal

abbrev pub invariant-loop-number : goal.invariant-loop-number
invariant-loop-number l = l.states.entries ≡ switched_to l.number l.profiles l.fn.states.entries
