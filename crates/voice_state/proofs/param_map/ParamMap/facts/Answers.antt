use Rattle.std.proofs.Common.{◌∙◌, ap, map, sym, subst}
use Rattle.voice_state.specs.Params.{entry_fact, IsOf}
use Rattle.voice_state.proofs.Entries.{params_told}
use Rattle.voice_state.proofs.param_map.ParamMap.facts.Goals as goal

pub returns : goal.returns
returns c = λ state is.
    ap (map (entry_fact c.args.group c.args.channel c.args.kind)) c.as_slice.ensures.value
    ∙ params_told c.args.group c.args.channel c.args.kind c.self.inside.entries.items state c.self.invariant.0 c.self.invariant.1
    (subst (λ entries. IsOf c.args.kind entries state) (sym c.self.view_is) is)
