use Rattle.clip_pass.proofs.DoneLaws.{shows_the_clip}
use Rattle.clip_pass.proofs.laws.a_clip_that_is_done_is_that_of_the_input.Goals as goal

pub returns : goal.returns
returns c = shows_the_clip c.clips_are_the_definition.ensures
