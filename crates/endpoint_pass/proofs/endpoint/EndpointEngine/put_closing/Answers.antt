use Rattle.std.proofs.Common.{[], ◌∷◌, ◌++◌}
use Rattle.std.proofs.lemmas.Result.{err_from_is_err_and}
use Rattle.endpoint_lines.specs.EndpointLines.{protocol_text}
use Rattle.pass_loop.specs.Put.{in_notes}
use Rattle.pass_loop.specs.ForProofs.PutLaws.{stops_more, then_puts}
use Rattle.listing_terms.specs.ExclusiveLines.{groups}
use Rattle.listing_lines.specs.Open.{open_puts}
use Rattle.endpoint_pass.specs.Held.{setup_lines}
use Rattle.endpoint_pass.proofs.endpoint.EndpointEngine.put_closing.Goals as goal

pub returns : goal.returns
returns g c =
    let held = c.args.self.now.endpoint.held in
    then_puts (open_puts held.exclusives groups) (in_notes (protocol_text held.protocol) ∷ [] ++ setup_lines held)
    (g.O.Outputs.places c.args.outputs.now)
    (g.O.Outputs.places c.list_open.new.outputs)
    (g.O.Outputs.places c.put_state.new.outputs) c.put_state.result c.in_ok-list_open.ensures c.put_state.ensures

pub returns-in_err-list_open : goal.returns-in_err-list_open
returns-in_err-list_open g c =
    let end = c.in_err-list_open.field-0.0 in
    let held = c.args.self.now.endpoint.held in
    let p = err_from_is_err_and c.from_residual.result c.from_residual.ensures.1 in
    rw (p.1, p.2) (stops_more (open_puts held.exclusives groups) (in_notes (protocol_text held.protocol) ∷ [] ++ setup_lines held) end
    (g.O.Outputs.places c.args.outputs.now)
    (g.O.Outputs.places c.list_open.new.outputs) c.in_err-list_open.ensures)
