use Rattle.midi_meaning.proofs.Translation.{plain_is_translation}
use Rattle.midi_meaning.proofs.laws.plain_pairs_are_a_translation.Goals as goal

pub returns : goal.returns
returns c = λ paired. plain_is_translation paired c.written_messages_are_read_again.ensures
