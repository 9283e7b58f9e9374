use Rattle.rehearsal_pass.proofs.InputLaws.{rehearses_the_input}
use Rattle.rehearsal_pass.proofs.laws.a_rehearsal_that_is_done_is_that_of_the_input.Goals as goal

pub returns : goal.returns
returns c = rehearses_the_input
