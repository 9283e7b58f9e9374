use Rattle.std.proofs.Common.{[], ℕ, List, sym, subst}
use Rattle.std.proofs.lemmas.Result.{err_from_is_err_and}
use Rattle.ump_grammar.specs.Replies.{AddsPackets}
use Rattle.ump_endpoint.specs.Held.{replies_in}
use Rattle.endpoint_pass.proofs.TakingLaws.{replies_fail, taken_puts}
use Rattle.endpoint_pass.proofs.endpoint.EndpointEngine.take_decoded.Goals as goal

pub returns-in_ok-put_replies-in-Ok-clause-takes : goal.returns-in_ok-put_replies-in-Ok-clause-takes
returns-in_ok-put_replies-in-Ok-clause-takes g c =
    let held = c.args.self.now.endpoint.held in
    let packet = c.args.packet.now in
    let A : List ℕ → Type 0 = λ words. AddsPackets (replies_in held packet) [] words in
    taken_puts c.args.self.now.order held c.args.offset packet c.in-Ok.taken
    (g.O.Outputs.places c.args.outputs.now)
    (g.O.Outputs.places c.put_replies.new.outputs)
    (g.O.Outputs.places c.put_taken.new.outputs) c.put_taken.result c.in-Ok.ensures.taken
    (c.in_ok-put_replies-in-Ok.ensures (replies_in held packet) (subst A (sym c.replies.ensures.packets) c.in-Ok.ensures.replies))
    c.put_taken.ensures

pub returns-in_err-put_replies-in-Ok-clause-takes : goal.returns-in_err-put_replies-in-Ok-clause-takes
returns-in_err-put_replies-in-Ok-clause-takes g c =
    let held = c.args.self.now.endpoint.held in
    let packet = c.args.packet.now in
    let end = c.in_err-put_replies-in-Ok.field-0.0 in
    let A : List ℕ → Type 0 = λ words. AddsPackets (replies_in held packet) [] words in
    let p = err_from_is_err_and c.from_residual.result c.from_residual.ensures.1 in
    rw (p.1, p.2) (replies_fail c.args.self.now.order held c.args.offset packet c.in-Ok.taken
    (g.O.Outputs.places c.args.outputs.now)
    (g.O.Outputs.places c.put_replies.new.outputs) end c.in-Ok.ensures.taken
    (c.in_err-put_replies-in-Ok.ensures (replies_in held packet) (subst A (sym c.replies.ensures.packets) c.in-Ok.ensures.replies)))
