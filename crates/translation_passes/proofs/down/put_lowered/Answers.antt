use Rattle.std.proofs.Common.{Bool, [], ◌∷◌, sym, subst}
use Rattle.std.proofs.lemmas.Result.{err_from_is_err_and}
use Rattle.std.specs.Option.{option_to_list}
use Rattle.down_translator.specs.Lowered.{attribute_line, lowered_bytes}
use Rattle.pass_loop.specs.Places.{Puts}
use Rattle.pass_loop.specs.Put.{in_lane}
use Rattle.pass_loop.specs.ForProofs.PutLaws.{stops_more, then_puts}
use Rattle.listing_lines.specs.Lines.{line_puts}
use Rattle.translation_passes.proofs.down.put_lowered.Goals as goal

pub returns-then-message : goal.returns-then-message
returns-then-message g c =
    let old = g.O.Outputs.places c.args.outputs.now in
    let mid = g.O.Outputs.places c.put_message.new.outputs in
    let new = g.O.Outputs.places c.put_attribute.new.outputs in
    let m = c.args.message.now in
    let S : Bool → Type 0 =
    λ left_out. Puts (line_puts (option_to_list (attribute_line c.args.offset m.lane left_out))) mid new c.put_attribute.result in
    then_puts (in_lane m.lane (lowered_bytes m) ∷ []) (line_puts (option_to_list (attribute_line c.args.offset m.lane m.has_attribute))) old
    mid new c.put_attribute.result c.in_ok-put_message.ensures
    (subst S (sym c.if-message.true) c.put_attribute.ensures)

pub returns-in_err-put_message : goal.returns-in_err-put_message
returns-in_err-put_message g c =
    let old = g.O.Outputs.places c.args.outputs.now in
    let mid = g.O.Outputs.places c.put_message.new.outputs in
    let m = c.args.message.now in
    let p = err_from_is_err_and c.from_residual.result c.from_residual.ensures.1 in
    rw (p.1, p.2) (stops_more (in_lane m.lane (lowered_bytes m) ∷ [])
    (line_puts (option_to_list (attribute_line c.args.offset m.lane m.has_attribute))) _ old mid c.in_err-put_message.ensures)
