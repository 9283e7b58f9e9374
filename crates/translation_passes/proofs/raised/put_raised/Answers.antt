use Rattle.std.proofs.lemmas.Result.{err_from_is_err_and}
use Rattle.translation_passes.proofs.RaisedLaws.{no_lines, then_lines}
use Rattle.translation_passes.proofs.raised.put_raised.Goals as goal

pub returns : goal.returns
returns g c =
    then_lines (g.P.PacketWork.IsDone c.args.offset) c.args.work.now c.args.raised.now c.put_packets.new.work
    (g.O.Outputs.places c.args.outputs.now)
    (g.O.Outputs.places c.put_packets.new.outputs) _ _ c.in_ok-put_packets.ensures c.put_lines.ensures

pub returns-in_err-put_packets : goal.returns-in_err-put_packets
returns-in_err-put_packets g c =
    let end = c.in_err-put_packets.field-0.0 in
    let p = err_from_is_err_and c.from_residual.result c.from_residual.ensures.1 in
    rw (p.1, p.2) (no_lines (g.P.PacketWork.IsDone c.args.offset) c.args.work.now c.args.raised.now c.put_packets.new.work
    (g.O.Outputs.places c.args.outputs.now) _ end c.in_err-put_packets.ensures)
