use Rattle.std.proofs.Common.{◌≡◌, ◌++◌, ◌+◌, ℕ, List, Some, take, drop, suc, ap, sym, ◌∙◌, refl, subst, length, slice_get}
use Rattle.std.proofs.lemmas.Option.{slice_get_read}
use Rattle.std.proofs.lemmas.Result.{err_from_is_err_and}
use Rattle.pass_loop.specs.Places.{FailsAt, over_puts}
use Rattle.pass_loop.specs.Put.{Put}
use Rattle.pass_loop.specs.ForProofs.PutLaws.{stops_more, then_put, then_stops}
use Rattle.pass_loop.specs.Each.{for_each}
use Rattle.pass_loop.specs.ForProofs.EachLaws.{all_each, next_each}
use Rattle.ci_text.specs.Profiles.{profile_line_of}
use Rattle.ci_text.proofs.profiles.put_profiles.Goals as goal

pub loop-profile-preserved : goal.loop-profile-preserved
loop-profile-preserved g c =
    let old = g.O.Outputs.places c.args.outputs.now in
    let mid = g.O.Outputs.places c.loop-profile.outputs in
    let new = g.O.Outputs.places c.put_profile.new.outputs in
    let n : ℕ = c.loop-profile.profile-index in
    let all = c.args.setup.now.profiles in
    let one = c.profile-item.result in
    let read = c.profiles-profile-items.result.now in
    let there : slice_get all n ≡ Some one =
    ap (λ ps. slice_get ps n) (sym c.profiles-profile-items.ensures.value) ∙ slice_get_read read (length read) n one refl c.loop-profile-test.true c.profile-item.is in
    let put = profile_line_of c.args.place (g.P.ProfileStates.states c.args.known.now) in
    let D : List Put → Type 0 = λ puts. new ≡ over_puts puts old in
    subst D (sym (next_each put all n one there))
    (then_put (for_each put 0 (take n all)) (put n one) old mid new c.loop-profile.invariant c.in_ok-put_profile.ensures)

pub returns-in_err-put_profile : goal.returns-in_err-put_profile
returns-in_err-put_profile g c =
    let end = c.in_err-put_profile.field-0.0 in
    let old = g.O.Outputs.places c.args.outputs.now in
    let mid = g.O.Outputs.places c.loop-profile.outputs in
    let new = g.O.Outputs.places c.put_profile.new.outputs in
    let n : ℕ = c.loop-profile.profile-index in
    let all = c.args.setup.now.profiles in
    let one = c.profile-item.result in
    let read = c.profiles-profile-items.result.now in
    let there : slice_get all n ≡ Some one =
    ap (λ ps. slice_get ps n) (sym c.profiles-profile-items.ensures.value) ∙ slice_get_read read (length read) n one refl c.loop-profile-test.true c.profile-item.is in
    let put = profile_line_of c.args.place (g.P.ProfileStates.states c.args.known.now) in
    let F : List Put → Type 0 = λ puts. FailsAt puts end old new in
    let rest : List Put = for_each put (n + 1) (drop (suc n) all) in
    let p = err_from_is_err_and c.from_residual.result c.from_residual.ensures.1 in
    rw (p.1, p.2) (subst F (sym (all_each put all n one there))
    (then_stops (for_each put 0 (take n all)) (put n one ++ rest) end old mid new c.loop-profile.invariant
    (stops_more (put n one) rest end mid new c.in_err-put_profile.ensures)))
