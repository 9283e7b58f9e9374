use Rattle.sysex8_pass.proofs.InputLaws.{joins_the_input}
use Rattle.sysex8_pass.proofs.laws.a_join_that_is_done_is_that_of_the_input.Goals as goal

pub returns : goal.returns
returns c = joins_the_input
