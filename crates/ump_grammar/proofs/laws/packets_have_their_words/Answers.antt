use Rattle.ump_grammar.proofs.Counting.{spelled-count}
use Rattle.ump_grammar.proofs.laws.packets_have_their_words.Goals as goal

pub returns : goal.returns
returns c = spelled-count
