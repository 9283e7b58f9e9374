use Rattle.std.proofs.Common.{sym, subst, is_ok}
use Rattle.voice_state.specs.Params.{IsGapFor}
use Rattle.voice_state.proofs.Places.{added_or_not}
use Rattle.voice_state.proofs.param_map.ParamMap.add.Goals as goal

pub invariant_of-self : goal.invariant_of-self
invariant_of-self c =
    added_or_not c.self.inside.entries.items c.args.number c.args.place
    (subst (λ entries. IsGapFor entries c.args.number c.args.place) (sym c.self.view_is) c.requires.place) c.args.state (is_ok c.insert.result)
    c.insert.new.self.items c.insert.ensures.items c.requires.below c.self.invariant.0 c.self.invariant.1
