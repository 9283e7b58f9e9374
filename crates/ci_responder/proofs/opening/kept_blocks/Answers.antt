use Rattle.std.proofs.Common.{◌∙◌, ◌∷◌, ◌++◌, [], List, arith, ap, sym, refl, subst, length, length-append}
use Rattle.std.proofs.lemmas.List.Elements.{All-push}
use Rattle.std.proofs.lemmas.Option.{slice_get_read}
use Rattle.std.specs.List.{All}
use Rattle.ci_responder.specs.declared.kept.CiBlock.{CiBlock}
use Rattle.ci_responder.specs.Held.{IsCiBlock}
use Rattle.ci_responder.specs.History.{kept, spent_at}
use Rattle.ci_responder.proofs.BlockLaws.{kept-more}
use Rattle.ci_responder.proofs.opening.kept_blocks.Goals as goal

pub loop-block-preserved : goal.loop-block-preserved
loop-block-preserved c =
    let setup = c.args.setup.now in
    let all = c.blocks-blocks.result.now in
    let block = c.block-item.result in
    let k = c.loop-block.block-index in
    let more = c.in_ok-add_block.ensures.added in
    let P : List CiBlock → Type 0 = All IsCiBlock in
    record {
      kept = more
          ∙ ap (λ blocks. blocks ++ kept 0 block ∷ []) c.loop-block.invariant.kept
          ∙ sym (kept-more (spent_at setup []) all k block
          (sym (slice_get_read all (length all) k block refl c.loop-block-test.true c.block-item.is)));
      count = omega (arith, ap length more, length-append c.loop-block.kept.items (kept 0 block ∷ []), c.loop-block.invariant.count);
      fits =
          subst P (sym more)
          (All-push IsCiBlock c.loop-block.kept.items (kept 0 block) c.loop-block.invariant.fits c.in_ok-add_block.ensures.fits);
    }
