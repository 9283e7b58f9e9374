use Rattle.std.proofs.Common.{refl}
use Rattle.clap.proofs.OnLiterals.{clap_on_literals}
use Rattle.command_line.specs.Rules.{cli, command_of}
use Rattle.command_line.proofs.laws.help_is_not_taken.Goals as goal

pub returns-clause-help : goal.returns-clause-help
unfolding cli command_of clap_on_literals
returns-clause-help c = refl

pub returns-clause-below : goal.returns-clause-below
unfolding cli command_of clap_on_literals
returns-clause-below c = refl

pub returns-clause-nothing : goal.returns-clause-nothing
unfolding cli command_of clap_on_literals
returns-clause-nothing c = refl
