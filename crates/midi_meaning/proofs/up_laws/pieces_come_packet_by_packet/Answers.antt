use Rattle.midi_meaning.proofs.Back.{pieces-more}
use Rattle.midi_meaning.proofs.up_laws.pieces_come_packet_by_packet.Goals as goal

pub returns : goal.returns
returns c = λ paired. pieces-more paired
