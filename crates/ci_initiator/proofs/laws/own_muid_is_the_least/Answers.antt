use Rattle.ci_initiator.proofs.SetupLaws.{least_unnamed}
use Rattle.ci_initiator.proofs.laws.own_muid_is_the_least.Goals as goal

pub returns : goal.returns
returns c = least_unnamed
