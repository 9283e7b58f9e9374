use Rattle.midi_meaning.proofs.Recording.{carried_has_piece}
use Rattle.midi_meaning.proofs.laws.carried_packets_have_a_piece.Goals as goal

pub returns : goal.returns
returns c = λ paired. carried_has_piece paired
