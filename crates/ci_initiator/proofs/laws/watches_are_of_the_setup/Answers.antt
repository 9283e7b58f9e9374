use Rattle.ci_initiator.proofs.WatchLaws.{watch-of-setup}
use Rattle.ci_initiator.proofs.laws.watches_are_of_the_setup.Goals as goal

pub returns : goal.returns
returns c = watch-of-setup c.block_of_a_group_is_the_one.ensures
