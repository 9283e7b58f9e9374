use Rattle.std.proofs.Common.{length}
use Rattle.ci_initiator.proofs.watch.+watches_differ.Given as goal

abbrev pub decreases-watches_differ : goal.decreases-watches_differ
decreases-watches_differ l = length l.watches.now
