use Rattle.ci_responder.proofs.Histories.{others_stay}
use Rattle.ci_responder.proofs.laws.switches_stand_alone.Goals as goal

pub returns : goal.returns
returns c = others_stay
