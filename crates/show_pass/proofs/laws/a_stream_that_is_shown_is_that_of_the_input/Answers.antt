use Rattle.show_pass.proofs.InputLaws.{shows_the_stream}
use Rattle.show_pass.proofs.laws.a_stream_that_is_shown_is_that_of_the_input.Goals as goal

pub returns : goal.returns
returns c = shows_the_stream
