use Rattle.midi_meaning.proofs.Induction.{one_more}
use Rattle.midi_meaning.proofs.laws.one_more_packet_keeps_each_lane.Goals as goal

pub returns : goal.returns
returns c = λ paired. one_more paired c.written_messages_are_read_again.ensures
