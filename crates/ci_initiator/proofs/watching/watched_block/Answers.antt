use Rattle.std.proofs.Common.{◌≡◌, ◌+◌, sym, ◌∙◌, ap, refl, arith, suc, drop, length, slice_get, Some}
use Rattle.std.proofs.lemmas.Option.{slice_get_read}
use Rattle.ci_initiator.specs.Watching.{watched_block}
use Rattle.ci_initiator.proofs.SetupLaws.{block-here, block-later}
use Rattle.ci_initiator.proofs.watching.watched_block.Goals as goal

pub returns-then-has_ci_at : goal.returns-then-has_ci_at
returns-then-has_ci_at c =
    let all = c.profiles-profile-items.result.now in
    let k = c.loop-profile.profile-index in
    let profile = c.profile-item.result in
    let there : slice_get c.args.setup.now.profiles k ≡ Some profile =
    ap (λ ps. slice_get ps k) (sym c.profiles-profile-items.ensures.value)
    ∙ slice_get_read all (length all) k profile refl c.loop-profile-test.true c.profile-item.is in
    sym (block-here c.args.setup.now.blocks c.args.setup.now.profiles k profile there (sym c.has_ci_at.ensures ∙ c.if-has_ci_at.true))
    ∙ c.loop-profile.invariant

pub loop-profile-preserved : goal.loop-profile-preserved
loop-profile-preserved c =
    let all = c.profiles-profile-items.result.now in
    let k = c.loop-profile.profile-index in
    let profile = c.profile-item.result in
    let there : slice_get c.args.setup.now.profiles k ≡ Some profile =
    ap (λ ps. slice_get ps k) (sym c.profiles-profile-items.ensures.value)
    ∙ slice_get_read all (length all) k profile refl c.loop-profile-test.true c.profile-item.is in
    let more : k + 1 ≡ suc k = omega arith in
    ap (λ n. watched_block c.args.setup.now.blocks (drop n c.args.setup.now.profiles)) more
    ∙ sym (block-later c.args.setup.now.blocks c.args.setup.now.profiles k profile there (sym c.has_ci_at.ensures ∙ c.if-has_ci_at.false))
    ∙ c.loop-profile.invariant
