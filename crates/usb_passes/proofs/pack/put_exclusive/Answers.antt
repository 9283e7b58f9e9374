use Rattle.std.proofs.Common.{arith}
use Rattle.std.proofs.lemmas.Result.{err_from_is_err_and}
use Rattle.usb_passes.proofs.PackLaws.{all_put, below_end, none_yet, one_fails, one_more}
use Rattle.usb_passes.proofs.pack.put_exclusive.Goals as goal

pub loop-event-init : goal.loop-event-init
loop-event-init g c = none_yet c.args.cable c.args.whole.now (g.O.Outputs.places c.args.outputs.now)

pub loop-event-smaller : goal.loop-event-smaller
loop-event-smaller g c = omega (arith, below_end c.args.cable c.args.whole.now c.loop-event.k c.in-Some.event c.in-Some.ensures)

pub loop-event-preserved : goal.loop-event-preserved
loop-event-preserved g c =
    one_more c.exclusive_events_come_in_order.ensures c.args.cable c.args.whole.now c.loop-event.k (g.O.Outputs.places c.args.outputs.now) _
    c.loop-event.invariant c.in-Some.event c.in-Some.ensures _ c.in_ok-put_output.ensures

pub returns-in_err-put_output : goal.returns-in_err-put_output
returns-in_err-put_output g c =
    let end = c.in_err-put_output.field-0.0 in
    let p = err_from_is_err_and c.from_residual.result c.from_residual.ensures.1 in
    rw (p.1, p.2) (one_fails c.exclusive_events_come_in_order.ensures c.args.cable c.args.whole.now c.loop-event.k
    (g.O.Outputs.places c.args.outputs.now) _
    c.loop-event.invariant c.in-Some.event c.in-Some.ensures _ end c.in_err-put_output.ensures)

pub returns : goal.returns
returns g c =
    all_put c.exclusive_events_come_in_order.ensures c.args.cable c.args.whole.now c.loop-event.k (g.O.Outputs.places c.args.outputs.now) _
    c.loop-event.invariant c.in_default.ensures
