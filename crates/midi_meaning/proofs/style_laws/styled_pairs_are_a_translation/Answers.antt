use Rattle.midi_meaning.proofs.Styles.{styled_is_translation}
use Rattle.midi_meaning.proofs.style_laws.styled_pairs_are_a_translation.Goals as goal

pub returns : goal.returns
returns c = λ paired. styled_is_translation paired c.statuses_that_run_can_be_left_out.ensures c.written_messages_are_read_again.ensures
