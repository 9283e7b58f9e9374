use Rattle.ci_initiator.proofs.Courses.{more-follows}
use Rattle.ci_initiator.proofs.laws.stage_is_the_course.Goals as goal

pub returns : goal.returns
returns c = λ setup distinct course event. more-follows c.held_is_the_history.ensures setup distinct course event
