use Rattle.std.proofs.Common.{◌*◌, ◌∙◌, arith, subst, sym, ℕ}
use Rattle.ci_initiator.specs.Watching.{IsLeastUnnamed}
use Rattle.ci_initiator.proofs.SetupLaws.{found-is-own, least-of-setup}
use Rattle.ci_initiator.proofs.watching.own_muid.Goals as goal

pub returns-clause-value : goal.returns-clause-value
returns-clause-value c =
    let blocks = c.args.setup.now.blocks in
    c.first_unnamed.ensures.value
    ∙ found-is-own blocks (16 * c.from-count.result) c.block_count.ensures.fits
    (omega (arith, c.block_count.ensures.value, c.from-count.ensures))

pub returns-clause-least : goal.returns-clause-least
returns-clause-least c =
    let blocks = c.args.setup.now.blocks in
    let L : ℕ → Type 0 = λ muid. IsLeastUnnamed blocks muid in
    subst L (sym c.first_unnamed.ensures.value)
    (least-of-setup blocks (16 * c.from-count.result) c.block_count.ensures.fits
    (omega (arith, c.block_count.ensures.value, c.from-count.ensures)))
