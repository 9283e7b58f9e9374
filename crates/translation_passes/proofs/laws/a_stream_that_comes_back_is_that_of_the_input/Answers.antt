use Rattle.translation_passes.proofs.InputLaws.{returns_the_input}
use Rattle.translation_passes.proofs.laws.a_stream_that_comes_back_is_that_of_the_input.Goals as goal

pub returns : goal.returns
returns c = returns_the_input
