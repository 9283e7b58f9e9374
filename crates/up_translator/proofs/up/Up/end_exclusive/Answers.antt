use Rattle.std.proofs.Common.{◌≡◌, ◌∙◌, ap, sym, subst, rules}
use Rattle.midi1_bytes.specs.Parsing.{parse}
use Rattle.midi1_bytes.specs.Steps.{Step}
use Rattle.up_translator.specs.Held.{holding_after_step, KeepsAfter}
use Rattle.up_translator.specs.Step.{Accepts}
use Rattle.up_translator.proofs.StepLaws.{end_step, held_after_end, kept_after_end}
use Rattle.up_translator.proofs.up.Up.end_exclusive.Goals as goal

pub raised_end-requires-clause-ended : goal.raised_end-requires-clause-ended
raised_end-requires-clause-ended c = (c.self.inside.parser.begun, c.byte.ensures.step ∙ end_step c.self.inside.parser c.args.offset)

pub returns : goal.returns
returns c =
    let step : Step = (parse c.self.inside.parser c.args.offset 247).step in
    let answer : Accepts c.self.inside.raiser.holding c.group-group.result c.args.offset step c.raised_end.result =
    subst (λ (s : Step). Accepts c.self.inside.raiser.holding c.group-group.result c.args.offset s c.raised_end.result) c.byte.ensures.step
    (c.raised_end.ensures c.self.inside.raiser.holding) in
    let kept : KeepsAfter c.self.inside.raiser.holding step =
    subst (KeepsAfter c.self.inside.raiser.holding) (sym (end_step c.self.inside.parser c.args.offset))
    (kept_after_end c.other_messages_change_nothing_kept.ensures c.self.inside.raiser.holding c.self.inside.parser.begun) in
    let held : holding_after_step c.self.inside.raiser.holding step ≡ c.self.inside.raiser.holding =
    ap (holding_after_step c.self.inside.raiser.holding) (end_step c.self.inside.parser c.args.offset)
    ∙ held_after_end c.self.inside.raiser.holding c.self.inside.parser.begun in
    search (rules, answer, kept, held)
