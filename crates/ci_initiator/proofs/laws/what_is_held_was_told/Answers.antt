use Rattle.ci_initiator.proofs.Courses.{held-is-told}
use Rattle.ci_initiator.proofs.laws.what_is_held_was_told.Goals as goal

pub returns : goal.returns
returns c = held-is-told
