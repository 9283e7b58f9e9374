use Rattle.std.proofs.Common.{◌≡◌, drop}
use Rattle.ci_initiator.specs.Watching.{watched_block}
use Rattle.ci_initiator.proofs.watching.watched_block.Given as goal

abbrev pub invariant-loop-profile : goal.invariant-loop-profile
invariant-loop-profile l =
    watched_block l.setup.blocks (drop l.profile-index l.setup.profiles) ≡ watched_block l.setup.blocks l.setup.profiles
