use Rattle.std.proofs.Common.{◌≡◌}
use Rattle.ci_initiator.specs.Incoming.{incoming_of}
use Rattle.ci_initiator.specs.Known.{held_by}
use Rattle.ci_initiator.proofs.ListLaws.{first-changed}
use Rattle.ci_initiator.proofs.rows.hold.Given as goal

abbrev pub invariant-loop-k : goal.invariant-loop-k
invariant-loop-k l = l.watched ≡ first-changed (held_by l.noted (incoming_of l.group l.view)) l.k l.initial.watched
