use Rattle.std.proofs.Common.{ℕ, List, subst, take}
use Rattle.up_translator.specs.Fronts.{RaiseNothing}
use Rattle.up_translator.specs.Held.{UpState}
use Rattle.up_translator.proofs.FrontLaws.{held_raise_nothing}
use Rattle.up_translator.proofs.up.Up.take_data.Goals as goal

pub returns-clause-after : goal.returns-clause-after
returns-clause-after c = λ offset.
    let raiser = c.self.inside.raiser in
    let bytes : List ℕ = take c.take_data.result c.args.bytes.now in
    let new : UpState = record { group = raiser.group; parsing = c.take_data.new.self; holding = raiser.holding } in
    subst (λ (up : UpState). RaiseNothing bytes up offset new) c.self.view_is
    (held_raise_nothing raiser.group raiser.holding bytes c.self.inside.parser offset c.take_data.new.self
    (c.take_data.ensures.after offset))
