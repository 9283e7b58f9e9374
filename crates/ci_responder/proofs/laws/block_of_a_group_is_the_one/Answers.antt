use Rattle.ci_responder.proofs.OneBlock.{found_has, one_has}
use Rattle.ci_responder.proofs.laws.block_of_a_group_is_the_one.Goals as goal

pub returns : goal.returns
returns c = record { has = found_has; only = one_has }
