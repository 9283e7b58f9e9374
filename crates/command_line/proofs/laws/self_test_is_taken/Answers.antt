use Rattle.std.proofs.Common.{refl}
use Rattle.clap.proofs.OnLiterals.{clap_on_literals}
use Rattle.command_line.specs.Rules.{cli, command_of}
use Rattle.command_line.proofs.laws.self_test_is_taken.Goals as goal

pub returns-clause-least : goal.returns-clause-least
unfolding cli command_of clap_on_literals
returns-clause-least c = refl

pub returns-clause-most : goal.returns-clause-most
unfolding cli command_of clap_on_literals
returns-clause-most c = refl
