use Rattle.ump_grammar.proofs.Fitting.{IsPacket-spelled}
use Rattle.ump_grammar.proofs.laws.spelled_packets_fit.Goals as goal

pub returns : goal.returns
returns c = IsPacket-spelled
