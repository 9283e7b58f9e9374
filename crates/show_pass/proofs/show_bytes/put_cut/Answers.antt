use Rattle.std.proofs.Common.{◌≡◌, ◌∷◌, [], subst}
use Rattle.std.proofs.lemmas.Result.{err_from_is_err_and}
use Rattle.midi_meaning.specs.declared.listed.Kind.{Kind}
use Rattle.midi_meaning.specs.StepListing.{cut_kind}
use Rattle.midi_lines.specs.StepLines.{byte_listing_text}
use Rattle.pass_loop.specs.Places.{FailsAt, over_puts}
use Rattle.pass_loop.specs.Put.{in_output}
use Rattle.pass_loop.specs.ForProofs.PutLaws.{then_puts, stops_more}
use Rattle.show_pass.specs.ShowBytes.{puts_after}
use Rattle.show_pass.proofs.show_bytes.put_cut.Goals as goal

pub returns : goal.returns
returns g c =
    let old = g.O.Outputs.places c.args.outputs.now in
    let mid = g.O.Outputs.places c.put_kind.new.outputs in
    let K : Kind → Type 0 = λ kind. mid ≡ over_puts (in_output (byte_listing_text kind c.args.cut_off.start) ∷ []) old in
    then_puts (in_output (byte_listing_text (cut_kind c.args.cut_off.what) c.args.cut_off.start) ∷ [])
    (puts_after c.args.cut_off.start c.args.cut_off.what c.args.cut_off.after c.args.offset) old mid _ _
    (subst K c.kind_of_cut.ensures c.in_ok-put_kind.ensures) c.put_after.ensures

pub returns-in_err-put_kind : goal.returns-in_err-put_kind
returns-in_err-put_kind g c =
    let end = c.in_err-put_kind.field-0.0 in
    let old = g.O.Outputs.places c.args.outputs.now in
    let mid = g.O.Outputs.places c.put_kind.new.outputs in
    let K : Kind → Type 0 = λ kind. FailsAt (in_output (byte_listing_text kind c.args.cut_off.start) ∷ []) end old mid in
    let p = err_from_is_err_and c.from_residual.result c.from_residual.ensures.1 in
    rw (p.1, p.2) (stops_more (in_output (byte_listing_text (cut_kind c.args.cut_off.what) c.args.cut_off.start) ∷ [])
    (puts_after c.args.cut_off.start c.args.cut_off.what c.args.cut_off.after c.args.offset) end old mid
    (subst K c.kind_of_cut.ensures c.in_err-put_kind.ensures))
