use Rattle.std.proofs.Common.{length}
use Rattle.std.proofs.lemmas.Result.{err_from_is_err_and}
use Rattle.pass_loop.specs.ForProofs.PutLaws.{then_puts, stops_more}
use Rattle.sysex8_pass.specs.Joining.{listed, piece_puts}
use Rattle.sysex8_pass.specs.Lines.{whole_text}
use Rattle.sysex8_pass.proofs.joining.put_whole.Goals as goal

pub returns : goal.returns
returns g c =
    then_puts (piece_puts c.args.place.group c.args.bytes.now)
    (listed (whole_text c.args.place.offset c.args.place.group c.args.place.stream (length c.args.bytes.now)))
    (g.O.Outputs.places c.args.outputs.now)
    (g.O.Outputs.places c.put_piece.new.outputs) _ _ c.in_ok-put_piece.ensures c.put_size.ensures

pub returns-in_err-put_piece : goal.returns-in_err-put_piece
returns-in_err-put_piece g c =
    let end = c.in_err-put_piece.field-0.0 in
    let p = err_from_is_err_and c.from_residual.result c.from_residual.ensures.1 in
    rw (p.1, p.2) (stops_more (piece_puts c.args.place.group c.args.bytes.now)
    (listed (whole_text c.args.place.offset c.args.place.group c.args.place.stream (length c.args.bytes.now))) end
    (g.O.Outputs.places c.args.outputs.now)
    (g.O.Outputs.places c.put_piece.new.outputs) c.in_err-put_piece.ensures)
