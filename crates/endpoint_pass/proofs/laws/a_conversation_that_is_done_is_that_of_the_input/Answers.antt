use Rattle.endpoint_pass.proofs.InputLaws.{answers_the_input}
use Rattle.endpoint_pass.proofs.laws.a_conversation_that_is_done_is_that_of_the_input.Goals as goal

pub returns : goal.returns
returns c = answers_the_input
