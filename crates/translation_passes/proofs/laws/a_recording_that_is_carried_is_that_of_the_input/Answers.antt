use Rattle.translation_passes.proofs.InputLaws.{carries_the_input}
use Rattle.translation_passes.proofs.laws.a_recording_that_is_carried_is_that_of_the_input.Goals as goal

pub returns : goal.returns
returns c = carries_the_input
