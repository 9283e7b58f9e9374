use Rattle.midi_meaning.proofs.Styles.{styled_has_piece}
use Rattle.midi_meaning.proofs.style_laws.styled_pieces_are_those_of_carried_packets.Goals as goal

pub returns : goal.returns
returns c = λ paired. styled_has_piece paired c.statuses_that_run_can_be_left_out.ensures
