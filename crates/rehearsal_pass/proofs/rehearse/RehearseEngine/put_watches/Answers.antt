use Rattle.std.proofs.Common.{◌≡◌, ◌++◌, ◌+◌, ◌∷◌, [], ℕ, List, take, drop, suc, sym, refl}
use Rattle.std.proofs.Common.{subst, Option, Some, None, Bool, slice_get, option_map}
use Rattle.std.proofs.lemmas.Result.{err_from_is_err_and}
use Rattle.ci_initiator.specs.declared.watch.Watched.{Watched}
use Rattle.pass_loop.specs.Places.{FailsAt, over_puts}
use Rattle.pass_loop.specs.Put.{Put, in_output}
use Rattle.pass_loop.specs.ForProofs.PutLaws.{stops_more, then_put, then_stops}
use Rattle.pass_loop.specs.Each.{for_each}
use Rattle.rehearsal_pass.specs.Rehearse.{held_line, held_text}
use Rattle.pass_loop.specs.ForProofs.EachLaws.{all_each, next_each}
use Rattle.rehearsal_pass.proofs.rehearse.RehearseEngine.put_watches.Goals as goal

-- the watch of which something is held
watched-of : (o : Option Watched) (held : Option Bool) → option_map (λ watched. watched.held) o ≡ Some held
    → (w : Watched) × (o ≡ Some w) × (w.held ≡ held)
watched-of None held is = let e : None ≡ Some held = is in cc
watched-of (Some w) held is = (w, refl, let e : Some w.held ≡ Some held = is in cc)

pub loop-k-preserved : goal.loop-k-preserved
loop-k-preserved g c =
    let old = g.O.Outputs.places c.args.outputs.now in
    let mid = g.O.Outputs.places c.loop-k.outputs in
    let new = g.O.Outputs.places c.put_held.new.outputs in
    let n : ℕ = c.loop-k.k in
    let all = c.args.self.now.rehearsal.initiator.watched in
    let one = watched-of (slice_get all n) c.holds.result c.holds.ensures in
    let D : List Put → Type 0 = λ puts. new ≡ over_puts puts old in
    let H : Option Bool → Type 0 = λ held. new ≡ over_puts (in_output (held_text n held) ∷ []) mid in
    subst D (sym (next_each held_line all n one.0 one.1))
    (then_put (for_each held_line 0 (take n all)) (held_line n one.0) old mid new c.loop-k.invariant
    (subst H (sym one.2) c.in_ok-put_held.ensures))

pub returns-in_err-put_held : goal.returns-in_err-put_held
returns-in_err-put_held g c =
    let end = c.in_err-put_held.field-0.0 in
    let old = g.O.Outputs.places c.args.outputs.now in
    let mid = g.O.Outputs.places c.loop-k.outputs in
    let new = g.O.Outputs.places c.put_held.new.outputs in
    let n : ℕ = c.loop-k.k in
    let all = c.args.self.now.rehearsal.initiator.watched in
    let one = watched-of (slice_get all n) c.holds.result c.holds.ensures in
    let F : List Put → Type 0 = λ puts. FailsAt puts end old new in
    let H : Option Bool → Type 0 = λ held. FailsAt (in_output (held_text n held) ∷ []) end mid new in
    let rest : List Put = for_each held_line (n + 1) (drop (suc n) all) in
    let p = err_from_is_err_and c.from_residual.result c.from_residual.ensures.1 in
    rw (p.1, p.2) (subst F (sym (all_each held_line all n one.0 one.1))
    (then_stops (for_each held_line 0 (take n all)) (held_line n one.0 ++ rest) end old mid new c.loop-k.invariant
    (stops_more (held_line n one.0) rest end mid new (subst H (sym one.2) c.in_err-put_held.ensures))))
