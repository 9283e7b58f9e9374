use Rattle.ci_responder.proofs.KeyLaws.{first_if}
use Rattle.ci_responder.proofs.profiles.number_of.Goals as goal

pub returns-clause-first : goal.returns-clause-first
returns-clause-first c = first_if c.args.key.now c.args.states.now.entries c.get_index_of.result c.get_index_of.ensures.index
