use Rattle.std.proofs.Common.{◌≡◌, take, []}
use Rattle.ci_initiator.specs.Known.{known_at}
use Rattle.ci_initiator.proofs.initiator.Initiator.new.Given as goal

abbrev pub invariant-loop-k : goal.invariant-loop-k
invariant-loop-k l = l.watched.items ≡ (known_at l.muid (take l.k l.watches) []).watched
