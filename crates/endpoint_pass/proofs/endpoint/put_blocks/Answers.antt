use Rattle.std.proofs.Common.{◌≡◌, ◌++◌, ◌+◌, ℕ, List, Some, take, drop, suc, ap, sym, ◌∙◌, refl, subst, length, slice_get}
use Rattle.std.proofs.lemmas.Option.{slice_get_read}
use Rattle.std.proofs.lemmas.Result.{err_from_is_err_and}
use Rattle.ci_responder.specs.Held.{muid_in}
use Rattle.pass_loop.specs.Places.{FailsAt, over_puts}
use Rattle.pass_loop.specs.Put.{Put}
use Rattle.pass_loop.specs.ForProofs.PutLaws.{stops_more, then_put, then_stops}
use Rattle.pass_loop.specs.Each.{for_each}
use Rattle.endpoint_pass.specs.Answering.{block_line_of}
use Rattle.pass_loop.specs.ForProofs.EachLaws.{all_each, next_each}
use Rattle.endpoint_pass.proofs.endpoint.put_blocks.Goals as goal

pub loop-number-preserved : goal.loop-number-preserved
loop-number-preserved g c =
    let old = g.O.Outputs.places c.args.outputs.now in
    let mid = g.O.Outputs.places c.loop-number.outputs in
    let new = g.O.Outputs.places c.put_block.new.outputs in
    let n : ℕ = c.loop-number.number in
    let all = c.args.setup.now.blocks in
    let one = c.index-blocks-number.result in
    let read = c.blocks-blocks.result.now in
    let there : slice_get all n ≡ Some one =
    ap (λ bs. slice_get bs n) (sym c.blocks-blocks.ensures.value) ∙ slice_get_read read (length read) n one refl c.loop-number-test.true c.index-blocks-number.is in
    let put = block_line_of (muid_in c.args.endpoint.now.held.responder.blocks) in
    let D : List Put → Type 0 = λ puts. new ≡ over_puts puts old in
    subst D (sym (next_each put all n one there))
    (then_put (for_each put 0 (take n all)) (put n one) old mid new c.loop-number.invariant c.in_ok-put_block.ensures)

pub returns-in_err-put_block : goal.returns-in_err-put_block
returns-in_err-put_block g c =
    let end = c.in_err-put_block.field-0.0 in
    let old = g.O.Outputs.places c.args.outputs.now in
    let mid = g.O.Outputs.places c.loop-number.outputs in
    let new = g.O.Outputs.places c.put_block.new.outputs in
    let n : ℕ = c.loop-number.number in
    let all = c.args.setup.now.blocks in
    let one = c.index-blocks-number.result in
    let read = c.blocks-blocks.result.now in
    let there : slice_get all n ≡ Some one =
    ap (λ bs. slice_get bs n) (sym c.blocks-blocks.ensures.value) ∙ slice_get_read read (length read) n one refl c.loop-number-test.true c.index-blocks-number.is in
    let put = block_line_of (muid_in c.args.endpoint.now.held.responder.blocks) in
    let F : List Put → Type 0 = λ puts. FailsAt puts end old new in
    let rest : List Put = for_each put (n + 1) (drop (suc n) all) in
    let p = err_from_is_err_and c.from_residual.result c.from_residual.ensures.1 in
    rw (p.1, p.2) (subst F (sym (all_each put all n one there))
    (then_stops (for_each put 0 (take n all)) (put n one ++ rest) end old mid new c.loop-number.invariant
    (stops_more (put n one) rest end mid new c.in_err-put_block.ensures)))
