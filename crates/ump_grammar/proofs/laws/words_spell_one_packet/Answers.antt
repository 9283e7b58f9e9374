use Rattle.ump_grammar.proofs.OnePacket.{one_packet}
use Rattle.ump_grammar.proofs.laws.words_spell_one_packet.Goals as goal

pub returns : goal.returns
returns c = one_packet
