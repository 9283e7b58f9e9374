use Rattle.midi_meaning.proofs.Recording.{plain_pairs-more}
use Rattle.midi_meaning.proofs.laws.pairs_come_packet_by_packet.Goals as goal

pub returns : goal.returns
returns c = λ paired. plain_pairs-more paired
