use Rattle.ump_grammar.proofs.OnePacket.{has_row-true}
use Rattle.ump_grammar.proofs.laws.rows_are_not_reserved.Goals as goal

pub returns : goal.returns
returns c = has_row-true
