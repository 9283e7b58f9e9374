use Rattle.std.proofs.Common.{◌≡◌, ◌*◌, drop}
use Rattle.ci_initiator.specs.Incoming.{lists}
use Rattle.ci_initiator.proofs.rows.lists.Given as goal

abbrev pub invariant-loop-k : goal.invariant-loop-k
invariant-loop-k l = lists l.id.bytes (drop (5 * l.k) l.ids) ≡ lists l.id.bytes l.ids
