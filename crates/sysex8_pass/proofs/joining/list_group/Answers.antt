use Rattle.std.proofs.Common.{◌≡◌, ℕ, List, arith, subst}
use Rattle.std.proofs.lemmas.Result.{err_from_is_err_and}
use Rattle.std.specs.List.{flat_map}
use Rattle.pass_loop.specs.Places.{over_puts}
use Rattle.pass_loop.specs.Put.{Put}
use Rattle.sysex8_streams.specs.History.{key_of}
use Rattle.sysex8_pass.specs.Held.{starts_in}
use Rattle.sysex8_pass.specs.Joining.{open_put}
use Rattle.sysex8_pass.specs.Listing.{below}
use Rattle.sysex8_pass.proofs.LoopLaws.{none-yet, one-fails, one-more}
use Rattle.sysex8_pass.proofs.joining.list_group.Goals as goal

pub loop-number-init : goal.loop-number-init
loop-number-init g c =
    none-yet (λ stream. open_put c.args.group (starts_in c.args.streams.now (key_of c.args.group stream)))
    (g.O.Outputs.places c.args.outputs.now)

pub loop-number-preserved : goal.loop-number-preserved
loop-number-preserved g c =
    let puts : ℕ → List Put = λ stream. open_put c.args.group (starts_in c.args.streams.now (key_of c.args.group stream)) in
    one-more puts c.loop-number.number (g.O.Outputs.places c.args.outputs.now) _ _ c.loop-number.invariant c.in_ok-list_stream.ensures

pub returns-in_err-list_stream : goal.returns-in_err-list_stream
returns-in_err-list_stream g c =
    let end = c.in_err-list_stream.field-0.0 in
    let puts : ℕ → List Put = λ stream. open_put c.args.group (starts_in c.args.streams.now (key_of c.args.group stream)) in
    let p = err_from_is_err_and c.from_residual.result c.from_residual.ensures.1 in
    rw (p.1, p.2) (one-fails puts c.loop-number.number 256 (omega arith) end (g.O.Outputs.places c.args.outputs.now) _ _
    c.loop-number.invariant c.in_err-list_stream.ensures)

pub returns : goal.returns
returns g c =
    let puts : ℕ → List Put = λ stream. open_put c.args.group (starts_in c.args.streams.now (key_of c.args.group stream)) in
    let P : ℕ → Type 0 =
    λ n. g.O.Outputs.places c.loop-number.outputs ≡ over_puts (flat_map puts (below n)) (g.O.Outputs.places c.args.outputs.now) in
    let all : c.loop-number.number ≡ 256 = omega arith in
    subst P all c.loop-number.invariant
