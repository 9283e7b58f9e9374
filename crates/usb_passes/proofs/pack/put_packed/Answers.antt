use Rattle.std.proofs.lemmas.Result.{err_from_is_err_and}
use Rattle.pass_loop.specs.ForProofs.PutLaws.{stops_more, then_puts}
use Rattle.listing_terms.specs.ByteLines.{lines_in}
use Rattle.usb_midi1.specs.Packed.{events_in}
use Rattle.listing_lines.specs.Lines.{line_puts}
use Rattle.usb_passes.specs.Pack.{event_puts}
use Rattle.usb_passes.proofs.pack.put_packed.Goals as goal

pub returns : goal.returns
returns g c =
    then_puts (event_puts (events_in c.args.packed.now)) (line_puts (lines_in c.args.packed.now.lines))
    (g.O.Outputs.places c.args.outputs.now)
    (g.O.Outputs.places c.put_events.new.outputs) _ _ c.in_ok-put_events.ensures c.put_lines.ensures

pub returns-in_err-put_events : goal.returns-in_err-put_events
returns-in_err-put_events g c =
    let end = c.in_err-put_events.field-0.0 in
    let p = err_from_is_err_and c.from_residual.result c.from_residual.ensures.1 in
    rw (p.1, p.2) (stops_more (event_puts (events_in c.args.packed.now)) (line_puts (lines_in c.args.packed.now.lines)) end
    (g.O.Outputs.places c.args.outputs.now)
    (g.O.Outputs.places c.put_events.new.outputs) c.in_err-put_events.ensures)
