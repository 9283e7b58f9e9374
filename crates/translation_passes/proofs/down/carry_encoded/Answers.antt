use Rattle.std.proofs.Common.{◌≡◌, [], Option, None, refl, ap, sym, ◌∙◌, subst}
use Rattle.std.specs.Prelude.{Some, Err}
use Rattle.midi_meaning.specs.declared.listed.BadStep.{BadStep}
use Rattle.pass_loop.specs.Pass.{Takes}
use Rattle.listing_lines.specs.Refusal.{refusal_by}
use Rattle.translation_passes.specs.Down.{puts_for}
use Rattle.translation_passes.proofs.down.carry_encoded.Goals as goal

pub returns-in-Ok-clause-carries : goal.returns-in-Ok-clause-carries
returns-in-Ok-clause-carries g c =
    let old = g.O.Outputs.places c.args.outputs.now in
    let new = g.O.Outputs.places c.put_carried.new.outputs in
    let plain = c.in-Ok.ensures.answer in
    let T : Option BadStep → Type 0 = λ bad. Takes (refusal_by bad c.args.offset) (puts_for c.in-Ok.carried) old new c.put_carried.result in
    (puts_for c.in-Ok.carried, λ fine. (c.in-Ok.carried, plain, refl), subst T (sym plain.accepted) c.put_carried.ensures)

pub returns-in-Err-clause-carries : goal.returns-in-Err-clause-carries
returns-in-Err-clause-carries g c =
    let old = g.O.Outputs.places c.args.outputs.now in
    let T : Option BadStep → Type 0 = λ bad. Takes (refusal_by bad c.args.offset) [] old old (Err c.refused.result) in
    let refused = c.in-Err.ensures.answer in (
      [],
      λ fine. absurd (let both : None ≡ Some c.in-Err.bad = sym fine ∙ refused in cc),
      subst T (sym refused) (ap Err c.refused.ensures, refl),
    )
