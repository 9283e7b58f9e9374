use Rattle.ci_responder.proofs.KeyLaws.{first_is_set, first_within, length_set}
use Rattle.ci_responder.proofs.profiles.set.Goals as goal

pub index_mut-requires : goal.index_mut-requires
index_mut-requires c = first_within c.requires.0 c.args.states.now.entries c.args.number c.requires.1

pub returns-clause-value : goal.returns-clause-value
returns-clause-value c key first = first_is_set key c.args.states.now.entries c.args.number c.args.on first

pub returns-clause-count : goal.returns-clause-count
returns-clause-count c = length_set c.args.states.now.entries c.args.number c.args.on
