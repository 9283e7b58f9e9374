use Rattle.std.proofs.Common.{◌≡◌, ◌+◌, ◌++◌, ◌∙◌, ap, sym, refl, subst, arith, ℕ, suc}
use Rattle.std.proofs.Common.{true, List, Some, take, length, length-take, slice_get}
use Rattle.std.proofs.lemmas.List.Elements.{All-push}
use Rattle.std.proofs.lemmas.Option.{slice_get_read}
use Rattle.std.specs.List.{flat_map}
use Rattle.function_blocks.specs.declared.setup.Profile.{Profile}
use Rattle.ci_initiator.specs.declared.watch.Watch.{Watch}
use Rattle.ci_initiator.specs.Known.{are_different}
use Rattle.ci_initiator.specs.Watching.{HasIds, watch_where}
use Rattle.ci_initiator.proofs.SetupLaws.{all-different, few-watches, take-all, take-next, watches-more}
use Rattle.ci_initiator.proofs.watching.watches.Goals as goal

pub loop-profile-preserved : goal.loop-profile-preserved
loop-profile-preserved c =
    let ps : List Profile = c.profiles-profiles.result.now in
    let p : Profile = c.profile-item.result in
    let k : ℕ = c.loop-profile.profile-index in
    let there : slice_get ps k ≡ Some p = slice_get_read ps (length ps) k p refl c.loop-profile-test.true c.profile-item.is in
    let more : suc k ≡ k + 1 = omega arith in
    let add : Profile → List Watch = watch_where c.watched_block-watched.result c.first_group-first.result in
    let P : List Profile → Type 0 = HasIds in
    record {
      watches = c.in_ok-add_watch.ensures.added
          ∙ ap (λ ws. ws ++ add p) c.loop-profile.invariant.watches
          ∙ sym (watches-more c.watched_block-watched.result c.first_group-first.result ps k p there)
          ∙ ap (λ n. flat_map add (take n ps)) more;
      ids = subst P (sym (take-next ps k p there) ∙ ap (λ n. take n ps) more)
          (All-push (λ (profile : Profile). length profile.id ≡ 5) (take k ps) p c.loop-profile.invariant.ids c.in_ok-add_watch.ensures.id);
    }

pub returns-clause-few : goal.returns-clause-few
returns-clause-few c =
    let ps : List Profile = c.profiles-profiles.result.now in
    let k : ℕ = c.loop-profile.profile-index in
    omega (
      arith,
      ap length c.loop-profile.invariant.watches,
      few-watches c.watched_block-watched.result c.first_group-first.result (take k ps),
      length-take k ps,
      c.profiles-profiles.ensures.few,
    )

pub returns-clause-different : goal.returns-clause-different
returns-clause-different c =
    let ps : List Profile = c.profiles-profiles.result.now in
    let k : ℕ = c.loop-profile.profile-index in
    let add : Profile → List Watch = watch_where c.watched_block-watched.result c.first_group-first.result in
    let all : take k ps ≡ ps = take-all ps k (omega (arith, c.loop-profile-test.false)) in
    let D : List Watch → Type 0 = λ ws. are_different ws ≡ true in
    subst D (sym (c.loop-profile.invariant.watches ∙ ap (flat_map add) all))
    (all-different c.watched_block-watched.result c.first_group-first.result ps c.profiles-profiles.ensures.distinct)
