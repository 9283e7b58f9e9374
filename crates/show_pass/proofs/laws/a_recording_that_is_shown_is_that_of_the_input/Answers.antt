use Rattle.show_pass.proofs.InputLaws.{shows_the_recording}
use Rattle.show_pass.proofs.laws.a_recording_that_is_shown_is_that_of_the_input.Goals as goal

pub returns : goal.returns
returns c = shows_the_recording
