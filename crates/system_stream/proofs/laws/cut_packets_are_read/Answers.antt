use Rattle.system_stream.proofs.CutPackets.{packet-read}
use Rattle.system_stream.proofs.laws.cut_packets_are_read.Goals as goal

pub returns : goal.returns
returns c = packet-read
