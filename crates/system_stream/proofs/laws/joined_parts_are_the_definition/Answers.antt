use Rattle.system_stream.proofs.PartLaws.{state-answers, state-text}
use Rattle.system_stream.proofs.laws.joined_parts_are_the_definition.Goals as goal

pub returns : goal.returns
returns c = record { open_text = state-text; answers = state-answers }
