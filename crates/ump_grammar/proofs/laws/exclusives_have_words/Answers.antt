use Rattle.ump_grammar.proofs.ExclusiveWords.{exclusive_words}
use Rattle.ump_grammar.proofs.laws.exclusives_have_words.Goals as goal

pub returns : goal.returns
returns c = exclusive_words
