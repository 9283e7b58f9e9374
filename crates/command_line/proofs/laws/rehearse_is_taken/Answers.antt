use Rattle.std.proofs.Common.{refl}
use Rattle.clap.proofs.OnLiterals.{clap_on_literals}
use Rattle.command_line.specs.Rules.{cli, command_of}
use Rattle.command_line.proofs.laws.rehearse_is_taken.Goals as goal

pub returns : goal.returns
unfolding cli command_of clap_on_literals
returns c = refl
