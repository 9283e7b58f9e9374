use Rattle.std.proofs.Common.{Option, subst}
use Rattle.std.proofs.lemmas.Result.{err_from_is_err_and}
use Rattle.std.specs.Option.{option_to_list}
use Rattle.midi_meaning.specs.declared.listed.Listed.{Listed}
use Rattle.down_translator.specs.Carried.{line_in}
use Rattle.down_translator.specs.Recording.{pair_put}
use Rattle.pass_loop.specs.Places.{Puts}
use Rattle.pass_loop.specs.ForProofs.PutLaws.{stops_more, then_puts}
use Rattle.listing_lines.specs.Lines.{line_puts}
use Rattle.translation_passes.specs.Down.{pair_puts}
use Rattle.translation_passes.proofs.down.put_carried.Goals as goal

pub returns : goal.returns
returns g c =
    let old = g.O.Outputs.places c.args.outputs.now in
    let mid = g.O.Outputs.places c.put_piece.new.outputs in
    let new = g.O.Outputs.places c.put_listed.new.outputs in
    let S : Option Listed → Type 0 = λ listed. Puts (line_puts (option_to_list listed)) mid new c.put_listed.result in
    then_puts (pair_puts (pair_put c.args.carried.now)) (line_puts (option_to_list (line_in c.args.carried.now))) old mid new
    c.put_listed.result c.in_ok-put_piece.ensures
    (subst S c.listed.ensures c.put_listed.ensures)

pub returns-in_err-put_piece : goal.returns-in_err-put_piece
returns-in_err-put_piece g c =
    let end = c.in_err-put_piece.field-0.0 in
    let old = g.O.Outputs.places c.args.outputs.now in
    let mid = g.O.Outputs.places c.put_piece.new.outputs in
    let p = err_from_is_err_and c.from_residual.result c.from_residual.ensures.1 in
    rw (p.1, p.2) (stops_more (pair_puts (pair_put c.args.carried.now)) (line_puts (option_to_list (line_in c.args.carried.now))) end old
    mid c.in_err-put_piece.ensures)
