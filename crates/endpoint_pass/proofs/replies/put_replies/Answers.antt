use Rattle.std.proofs.Common.{◌≡◌, ◌<◌, ℕ, List, length, arith, sym, subst}
use Rattle.std.proofs.lemmas.Result.{err_from_is_err_and}
use Rattle.pass_loop.specs.Places.{FailsAt, over_puts}
use Rattle.endpoint_pass.proofs.ReplyLaws.{PutSoFar, all_put, nothing_put, one_fails, one_more, put_of}
use Rattle.endpoint_pass.proofs.replies.put_replies.Goals as goal

pub loop-packet-init : goal.loop-packet-init
loop-packet-init g c = λ packets adds. nothing_put c.args.order packets c.args.replies (g.O.Outputs.places c.args.outputs.now) adds

pub loop-packet-preserved : goal.loop-packet-preserved
loop-packet-preserved g c = λ packets adds.
    let old = g.O.Outputs.places c.args.outputs.now in
    let now = g.O.Outputs.places c.loop-packet.outputs in
    let later = g.O.Outputs.places c.put_encoded.new.outputs in
    let rest : List ℕ = c.loop-packet.rest in
    let some : 0 < length rest = grind (arith, c.in-Some.ensures.none) in
    let W : List ℕ → Type 0 = λ words. later ≡ over_puts (put_of c.args.order words) now in
    let R : List ℕ → Type 0 = λ words. PutSoFar c.args.order packets words old later in
    subst R (sym c.in-Some.ensures.rest)
    (one_more c.args.order packets rest old now (c.loop-packet.invariant packets adds) some later
    (subst W c.in-Some.ensures.words c.in_ok-put_encoded.ensures))

pub returns-in_err-put_encoded : goal.returns-in_err-put_encoded
returns-in_err-put_encoded g c = λ packets adds.
    let old = g.O.Outputs.places c.args.outputs.now in
    let now = g.O.Outputs.places c.loop-packet.outputs in
    let later = g.O.Outputs.places c.put_encoded.new.outputs in
    let rest : List ℕ = c.loop-packet.rest in
    let some : 0 < length rest = grind (arith, c.in-Some.ensures.none) in
    let end = c.in_err-put_encoded.field-0.0 in
    let p = err_from_is_err_and c.from_residual.result c.from_residual.ensures.1 in
    let F : List ℕ → Type 0 = λ words. FailsAt (put_of c.args.order words) end now later in
    rw (p.1, p.2) (one_fails c.args.order packets rest old now (c.loop-packet.invariant packets adds) some later end
    (subst F c.in-Some.ensures.words c.in_err-put_encoded.ensures))

pub returns : goal.returns
returns g c = λ packets adds.
    let old = g.O.Outputs.places c.args.outputs.now in
    let now = g.O.Outputs.places c.loop-packet.outputs in
    let rest : List ℕ = c.loop-packet.rest in
    let none : length rest ≡ 0 = grind (arith, c.in_default.ensures.none) in
    all_put c.args.order packets rest old now (c.loop-packet.invariant packets adds) none
