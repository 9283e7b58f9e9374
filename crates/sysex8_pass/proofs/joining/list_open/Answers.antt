use Rattle.std.proofs.Common.{◌≡◌, ◌<◌, ℕ, arith, subst}
use Rattle.std.proofs.lemmas.Result.{err_from_is_err_and}
use Rattle.pass_loop.specs.Places.{FailsAt, over_puts}
use Rattle.sysex8_pass.specs.Held.{starts_in}
use Rattle.sysex8_pass.specs.Joining.{group_puts}
use Rattle.sysex8_pass.proofs.LoopLaws.{none-yet, one-fails, one-more}
use Rattle.sysex8_pass.proofs.joining.list_open.Goals as goal

pub loop-number-init : goal.loop-number-init
loop-number-init g c = none-yet (group_puts (starts_in c.args.streams.now)) (g.O.Outputs.places c.args.outputs.now)

pub loop-number-preserved : goal.loop-number-preserved
loop-number-preserved g c =
    let n : ℕ = c.loop-number.number in
    let number : c.low_bits.result ≡ n = omega (arith, c.low_bits.ensures) in
    let mid = g.O.Outputs.places c.loop-number.outputs in
    let new = g.O.Outputs.places c.list_group.new.outputs in
    let N : ℕ → Type 0 = λ group. new ≡ over_puts (group_puts (starts_in c.args.streams.now) group) mid in
    one-more (group_puts (starts_in c.args.streams.now)) n (g.O.Outputs.places c.args.outputs.now) mid new c.loop-number.invariant
    (subst N number c.in_ok-list_group.ensures)

pub returns-in_err-list_group : goal.returns-in_err-list_group
returns-in_err-list_group g c =
    let end = c.in_err-list_group.field-0.0 in
    let n : ℕ = c.loop-number.number in
    let below : n < 16 = omega arith in
    let number : c.low_bits.result ≡ n = omega (arith, c.low_bits.ensures) in
    let mid = g.O.Outputs.places c.loop-number.outputs in
    let new = g.O.Outputs.places c.list_group.new.outputs in
    let N : ℕ → Type 0 = λ group. FailsAt (group_puts (starts_in c.args.streams.now) group) end mid new in
    let p = err_from_is_err_and c.from_residual.result c.from_residual.ensures.1 in
    rw (p.1, p.2) (one-fails (group_puts (starts_in c.args.streams.now)) n 16 below end (g.O.Outputs.places c.args.outputs.now) mid new
    c.loop-number.invariant (subst N number c.in_err-list_group.ensures))
