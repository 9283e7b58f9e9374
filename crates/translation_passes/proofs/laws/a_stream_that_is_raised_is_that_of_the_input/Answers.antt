use Rattle.translation_passes.proofs.InputLaws.{raises_the_input}
use Rattle.translation_passes.proofs.laws.a_stream_that_is_raised_is_that_of_the_input.Goals as goal

pub returns : goal.returns
returns c = raises_the_input
