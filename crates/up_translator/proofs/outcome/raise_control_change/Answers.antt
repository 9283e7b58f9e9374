use Rattle.std.proofs.Common.{◌∙◌, ap, sym, subst}
use Rattle.param_collector.specs.declared.collected.Collected.{Collected}
use Rattle.voice_messages.specs.declared.voice1.Voice1.TheVariants as voice1
use Rattle.up_translator.proofs.ControlLaws.{raised_as_meant, refused_by_index}
use Rattle.up_translator.specs.Outcome.{outcome_by, refusal_in, IsRaisedVoice}
use Rattle.up_translator.proofs.outcome.raise_control_change.Goals as goal

pub returns-clause-refused : goal.returns-clause-refused
returns-clause-refused c =
    ap refusal_in c.outcome_of.ensures.outcome
    ∙ ap (λ (answer : Collected). refusal_in (outcome_by answer c.args.channel c.args.index c.args.value))
    c.control-collected.ensures.answer
    ∙ refused_by_index c.args.collector.now c.args.channel c.args.index c.args.value

pub returns-clause-raised : goal.returns-clause-raised
returns-clause-raised c = λ state keeps.
    subst (IsRaisedVoice c.args.collector.now.paired state (voice1.Control c.args.channel c.args.index c.args.value))
    (sym (c.outcome_of.ensures.outcome
    ∙ ap (λ (answer : Collected). outcome_by answer c.args.channel c.args.index c.args.value)
    (c.control-collected.ensures.meant state keeps).1))
    (raised_as_meant c.args.collector.now.paired state c.args.channel c.args.index c.args.value)
