use Rattle.c_pure.proofs.WordLaws.{heard_words, kind_words, status_words}
use Rattle.c_pure.proofs.names.words_are_those_of_the_numbers.Goals as goal

pub returns-clause-statuses : goal.returns-clause-statuses
returns-clause-statuses c = status_words

pub returns-clause-kinds : goal.returns-clause-kinds
returns-clause-kinds c = kind_words

pub returns-clause-heard : goal.returns-clause-heard
returns-clause-heard c = heard_words
