use Rattle.packet_input.proofs.CuttingLaws.{packets_once}
use Rattle.packet_input.proofs.laws.packets_are_cut_once.Goals as goal

pub returns : goal.returns
returns c = packets_once c.one_cutting.ensures c.fronts_are_cut_as_the_stream.ensures c.words_spell_one_packet.ensures
