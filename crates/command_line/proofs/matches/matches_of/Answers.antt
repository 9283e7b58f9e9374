use Rattle.std.proofs.Common.{arith}
use Rattle.clap.specs.Simple.{app_of}
use Rattle.command_line.proofs.ClapLemmas.{taken, refused, entered_of}
use Rattle.command_line.proofs.matches.matches_of.Goals as goal

pub returns-in-Ok-try_get_matches_from-clause-taken : goal.returns-in-Ok-try_get_matches_from-clause-taken
returns-in-Ok-try_get_matches_from-clause-taken c =
    taken (app_of c.in-Ok.command) _ c.in-Ok.ensures.app c.in-Ok-try_get_matches_from.ensures.kinds

pub returns-in-Ok-try_get_matches_from-clause-matches : goal.returns-in-Ok-try_get_matches_from-clause-matches
returns-in-Ok-try_get_matches_from-clause-matches c =
    entered_of (app_of c.in-Ok.command) _ _ c.in-Ok.ensures.app (λ e. (c.in-Ok-try_get_matches_from.ensures.matches e).1)

pub returns-in-Err-try_get_matches_from-clause-usage : goal.returns-in-Err-try_get_matches_from-clause-usage
returns-in-Err-try_get_matches_from-clause-usage c said =
    refused (app_of c.in-Ok.command) _ c.in-Err-try_get_matches_from.error c.kind.result c.in-Ok.ensures.app c.kind.ensures
    (c.fault_of.ensures.usage (grind (arith, said))) c.in-Err-try_get_matches_from.ensures.kinds
