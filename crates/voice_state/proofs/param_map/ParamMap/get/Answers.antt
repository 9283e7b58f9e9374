use Rattle.std.proofs.Common.{subst, arith}
use Rattle.std.proofs.lemmas.List.{get_or_default}
use Rattle.voice_state.specs.Params.{no_entry, IsInOrder}
use Rattle.voice_state.proofs.Places.{state_found, state_missing}
use Rattle.voice_state.proofs.param_map.ParamMap.get.Goals as goal

pub returns-in-Ok-clause-state : goal.returns-in-Ok-clause-state
returns-in-Ok-clause-state c =
    let value = state_found _ (subst IsInOrder c.self.view_is c.self.invariant.0) _ _ c.in-Ok.ensures.found in
    let read = get_or_default _ _ c.index.result.now no_entry c.in-Ok.ensures.found.in_range in
    grind (arith, c.self.view_is, c.number_of.ensures.number)

pub returns-in-Err-clause-state : goal.returns-in-Err-clause-state
returns-in-Err-clause-state c =
    let missing = state_missing _ _ _ c.in-Err.ensures.absent in
    grind (arith, c.number_of.ensures.number)
