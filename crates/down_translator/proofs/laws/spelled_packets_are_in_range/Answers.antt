use Rattle.down_translator.proofs.HeldLaws.{packet_in_range}
use Rattle.down_translator.proofs.laws.spelled_packets_are_in_range.Goals as goal

pub returns : goal.returns
returns c = packet_in_range
