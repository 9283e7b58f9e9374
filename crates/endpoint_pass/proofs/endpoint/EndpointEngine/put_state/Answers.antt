use Rattle.std.proofs.Common.{ℕ, [], ◌∷◌, ◌++◌, subst}
use Rattle.std.specs.Prelude.{Err}
use Rattle.std.proofs.lemmas.Result.{err_from_is_err_and}
use Rattle.endpoint_lines.specs.EndpointLines.{protocol_text}
use Rattle.pass_loop.specs.Places.{Puts}
use Rattle.pass_loop.specs.Put.{in_notes}
use Rattle.pass_loop.specs.ForProofs.PutLaws.{stops_more, then_puts}
use Rattle.endpoint_pass.specs.Held.{setup_lines}
use Rattle.endpoint_pass.proofs.endpoint.EndpointEngine.put_state.Goals as goal

pub returns : goal.returns
returns g c =
    let old = g.O.Outputs.places c.args.outputs.now in
    let mid = g.O.Outputs.places c.put_protocol.new.outputs in
    let new = g.O.Outputs.places c.put_setup.new.outputs in
    let lines = setup_lines c.args.self.now.endpoint.held in
    let P : ℕ → Type 0 = λ protocol. Puts (in_notes (protocol_text protocol) ∷ [] ++ lines) old new c.put_setup.result in
    subst P c.protocol.ensures (then_puts (in_notes (protocol_text c.protocol.result) ∷ []) lines old mid new c.put_setup.result
    c.in_ok-put_protocol.ensures c.put_setup.ensures)

pub returns-in_err-put_protocol : goal.returns-in_err-put_protocol
returns-in_err-put_protocol g c =
    let end = c.in_err-put_protocol.field-0.0 in
    let old = g.O.Outputs.places c.args.outputs.now in
    let mid = g.O.Outputs.places c.put_protocol.new.outputs in
    let lines = setup_lines c.args.self.now.endpoint.held in
    let P : ℕ → Type 0 = λ protocol. Puts (in_notes (protocol_text protocol) ∷ [] ++ lines) old mid (Err end) in
    let p = err_from_is_err_and c.from_residual.result c.from_residual.ensures.1 in
    rw (p.1, p.2) (subst P c.protocol.ensures
    (stops_more (in_notes (protocol_text c.protocol.result) ∷ []) lines end old mid c.in_err-put_protocol.ensures))
