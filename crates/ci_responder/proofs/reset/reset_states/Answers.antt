use Rattle.ci_responder.proofs.ResetLaws.{switched_all, switched_more, within_states}
use Rattle.ci_responder.proofs.reset.reset_states.Goals as goal

pub index_mut-requires : goal.index_mut-requires
index_mut-requires c =
    within_states c.args.profiles.now c.args.states.now.entries c.loop-number.states.entries c.loop-number.number
    c.loop-number.number c.requires c.loop-number.invariant c.loop-number-test.true

pub loop-number-preserved : goal.loop-number-preserved
loop-number-preserved c =
    switched_more c.args.profiles.now c.loop-number.number c.index-profiles-number.result c.args.states.now.entries
    c.loop-number.states.entries c.loop-number.invariant c.loop-number-test.true c.index-profiles-number.is

pub returns : goal.returns
returns c =
    switched_all c.args.profiles.now c.args.states.now.entries c.loop-number.states.entries c.loop-number.number c.requires
    c.loop-number.invariant c.loop-number-test.false c.loop-number.auto.number-end
