use Rattle.midi_meaning.proofs.Recording.{recording_agrees}
use Rattle.midi_meaning.proofs.laws.plain_pairs_mean_the_packets.Goals as goal

pub returns : goal.returns
returns c = λ paired. recording_agrees paired c.written_messages_are_read_again.ensures
