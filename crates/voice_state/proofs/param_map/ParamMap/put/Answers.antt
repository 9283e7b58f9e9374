use Rattle.std.proofs.Common.{◌≡◌, ◌∙◌, ◌==◌, ◌<◌, ℕ, ap, sym, subst, set}
use Rattle.std.proofs.lemmas.List.Elements.{All-set}
use Rattle.std.proofs.lemmas.Result.{on_ok_weaker}
use Rattle.midi_meaning.specs.State.{put}
use Rattle.voice_state.specs.declared.param_map.ParamState.{ParamState}
use Rattle.voice_state.specs.Params.{number_of, state_at, IsAt, IsInOrder}
use Rattle.voice_state.proofs.Places.{order_kept, put_at, put_in, state_found, state_missing}
use Rattle.voice_state.proofs.Rooms.{same_full}
use Rattle.voice_state.proofs.param_map.ParamMap.put.Goals as goal

-- it was there
pub invariant_of-self : goal.invariant_of-self
invariant_of-self c =
    let entry : ℕ × ParamState = (c.number_of-number.result, c.args.state) in (
      order_kept c.self.inside.entries.items c.self.invariant.0 c.number_of-number.result c.in-Ok.place
          (subst (λ entries. IsAt entries c.number_of-number.result c.in-Ok.place) (sym c.self.view_is) c.in-Ok.ensures.found) c.args.state,
      All-set (λ (entry : ℕ × ParamState). entry.0 < 16384) c.self.inside.entries.items c.in-Ok.place entry c.number_of-number.ensures.below
          c.self.invariant.1,
    )

pub returns-in-Ok-clause-put : goal.returns-in-Ok-clause-put
returns-in-Ok-clause-put c = λ other.
    let old = c.args.self.now in
    let number = c.number_of-number.result in
    let place = c.in-Ok.place in
    let state = c.args.state in
    let puts = put_at old (subst IsInOrder c.self.view_is c.self.invariant.0) number place c.in-Ok.ensures.found state other in
    subst (λ entries. state_at (set entries place (number, state)) other
    ≡ put ◌==◌ (state_at old) (number_of c.args.bank c.args.index) state other) (sym c.self.view_is)
    (subst (λ n. state_at (set old place (number, state)) other ≡ put ◌==◌ (state_at old) n state other) c.number_of-number.ensures.number puts)

pub returns-in-Ok-clause-full : goal.returns-in-Ok-clause-full
returns-in-Ok-clause-full c = λ full.
    let old = c.args.self.now in
    let found =
    state_found old (subst IsInOrder c.self.view_is c.self.invariant.0) c.number_of-number.result c.in-Ok.place c.in-Ok.ensures.found in
    absurd (let e = sym full.1 ∙ ap (state_at old) (sym c.number_of-number.ensures.number) ∙ found in cc)

-- it wasn't
pub returns-in-Err-clause-put : goal.returns-in-Err-clause-put
returns-in-Err-clause-put c =
    let old = c.args.self.now in
    let number = c.number_of-number.result in
    let state = c.args.state in
    on_ok_weaker c.add.result
    (λ added other.
    ap (λ entries. state_at entries other) added
    ∙ put_in old number c.in-Err.place c.in-Err.ensures.absent state other
    ∙ ap (λ n. put ◌==◌ (state_at old) n state other) c.number_of-number.ensures.number)
    c.add.ensures.added

pub returns-in-Err-clause-full : goal.returns-in-Err-clause-full
returns-in-Err-clause-full c =
    let old = c.args.self.now in
    let missing = state_missing old c.number_of-number.result c.in-Err.place c.in-Err.ensures.absent in
    same_full c.add.result (λ full. (full, ap (state_at old) (sym c.number_of-number.ensures.number) ∙ missing)) (λ both. both.0) c.add.ensures.full
