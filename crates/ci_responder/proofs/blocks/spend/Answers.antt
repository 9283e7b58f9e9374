use Rattle.std.proofs.Common.{◌<◌, ◌∙◌, length, arith, ap, sym, subst, slice_set}
use Rattle.std.proofs.lemmas.List.Elements.{All-set}
use Rattle.ci_responder.specs.declared.kept.CiBlock.{CiBlock}
use Rattle.ci_responder.specs.Held.{IsCiBlock}
use Rattle.ci_responder.proofs.BlockLaws.{change_is_set, in_force, next_fits, number_within}
use Rattle.ci_responder.proofs.blocks.spend.Goals as goal

pub use_up-requires : goal.use_up-requires
use_up-requires c =
    let block : CiBlock = c.index-blocks-number.result in
    let within : c.args.number < length c.args.blocks.now = number_within c.args.blocks.now c.args.number c.requires.in_force in
    let fits : IsCiBlock _ = c.requires.blocks c.args.number block within in
    omega (arith, in_force c.args.blocks.now c.args.number block c.requires.in_force, fits.few)

pub returns-clause-value : goal.returns-clause-value
returns-clause-value c =
    ap (slice_set c.args.blocks.now c.args.number) c.use_up.ensures
    ∙ change_is_set c.args.blocks.now c.args.number c.index-blocks-number.result

pub returns-clause-fits : goal.returns-clause-fits
returns-clause-fits c =
    let block : CiBlock = c.index-blocks-number.result in
    let within : c.args.number < length c.args.blocks.now = number_within c.args.blocks.now c.args.number c.requires.in_force in
    let P : CiBlock → Type 0 = IsCiBlock in
    All-set IsCiBlock c.args.blocks.now c.args.number c.use_up.new.block
    (subst P (sym c.use_up.ensures) (next_fits _ (c.requires.blocks c.args.number block within))) c.requires.blocks
