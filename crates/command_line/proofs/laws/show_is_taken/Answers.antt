use Rattle.std.proofs.Common.{refl}
use Rattle.clap.proofs.OnLiterals.{clap_on_literals}
use Rattle.command_line.specs.Rules.{cli, command_of}
use Rattle.command_line.proofs.laws.show_is_taken.Goals as goal

pub returns-clause-words : goal.returns-clause-words
unfolding cli command_of clap_on_literals
returns-clause-words c = refl

pub returns-clause-bytes : goal.returns-clause-bytes
unfolding cli command_of clap_on_literals
returns-clause-bytes c = refl

pub returns-clause-most_words : goal.returns-clause-most_words
unfolding cli command_of clap_on_literals
returns-clause-most_words c = refl

pub returns-clause-most_bytes : goal.returns-clause-most_bytes
unfolding cli command_of clap_on_literals
returns-clause-most_bytes c = refl
