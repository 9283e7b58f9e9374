use Rattle.std.proofs.Common.{◌∷◌, ◌<◌, ℕ, sym}
use Rattle.std.proofs.lemmas.List.Elements.{All-head, All-rest, All-same}
use Rattle.voice_state.specs.declared.param_map.ParamState.{ParamState}
use Rattle.voice_state.proofs.param_map.ParamFacts.take_first.Goals as goal

pub param_fact-requires : goal.param_fact-requires
param_fact-requires c =
    let P : ℕ × ParamState → Type 0 = λ entry. entry.0 < 16384 in
    let first = c.in_ok-number.field-0-0.now in
    let others = c.in_ok-number.others.now in
    All-head P first others (All-same P (first ∷ others) c.self.inside.entries.now (sym c.in_ok-number.ensures.cases.0) c.self.invariant)

pub invariant_of-self : goal.invariant_of-self
invariant_of-self c =
    let P : ℕ × ParamState → Type 0 = λ entry. entry.0 < 16384 in
    All-rest P c.in_ok-number.field-0-0.now c.in_ok-number.others.now c.self.inside.entries.now c.in_ok-number.ensures.cases.0
    c.self.invariant
