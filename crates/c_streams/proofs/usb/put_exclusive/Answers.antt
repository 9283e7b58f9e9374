use Rattle.std.proofs.Common.{◌≡◌, ◌*◌, ◌++◌, length, take, drop, ap, ◌∙◌, arith, length-drop}
use Rattle.c_answers.specs.Fronts.{with_front}
use Rattle.c_answers.proofs.FrontLaws.{rest_given_back, rest_lent}
use Rattle.c_streams.proofs.PackedLaws.{below_end, event_size, next_fits, none_yet, one_more}
use Rattle.c_streams.proofs.usb.put_exclusive.Goals as goal

pub loop-event-init : goal.loop-event-init
loop-event-init c = none_yet c.args.cable c.args.whole.now c.args.buffer.now

pub loop-event-smaller : goal.loop-event-smaller
loop-event-smaller c = omega (arith, below_end c.args.cable c.args.whole.now c.loop-event.k c.in-Some.event c.in-Some.ensures)

pub put_bytes-requires : goal.put_bytes-requires
put_bytes-requires c =
    let l = c.loop-event in
    let fits =
    next_fits c.exclusive_events_come_in_order.ensures c.args.cable c.args.whole.now l.k c.args.buffer.now l.buffer l.invariant
    c.in-Some.event c.in-Some.ensures in
    let four = event_size c.args.cable (drop (3 * l.k) c.args.whole.now) c.in-Some.event c.in-Some.ensures in
    omega (arith, fits, four, ap length (rest_lent (4 * l.k) l.buffer), length-drop (4 * l.k) l.buffer)

pub loop-event-preserved : goal.loop-event-preserved
loop-event-preserved c =
    let l = c.loop-event in
    let written : c.put_bytes.new.buffer ≡ with_front c.in-Some.event (drop (4 * l.k) l.buffer)
    = c.put_bytes.ensures.written ∙ ap (with_front c.in-Some.event) (rest_lent (4 * l.k) l.buffer) in
    one_more c.exclusive_events_come_in_order.ensures c.args.cable c.args.whole.now l.k c.args.buffer.now l.buffer l.invariant
    c.in-Some.event _ c.in-Some.ensures
    (rest_given_back (4 * l.k) l.buffer c.put_bytes.new.buffer ∙ ap (λ rest. take (4 * l.k) l.buffer ++ rest) written)
