use Rattle.std.proofs.Common.{◌++◌, subst}
use Rattle.std.specs.Prelude.{Err}
use Rattle.std.proofs.lemmas.Result.{err_from_is_err_and}
use Rattle.ci_responder.specs.Held.{muid_in}
use Rattle.ci_responder.specs.Keys.{state_in}
use Rattle.ci_text.specs.Profiles.{profile_lines}
use Rattle.ci_text.specs.declared.profiles.LinePlace.TheVariants.{Notes}
use Rattle.function_blocks.specs.Setups.{SetupData}
use Rattle.pass_loop.specs.Each.{for_each}
use Rattle.pass_loop.specs.Places.{Puts}
use Rattle.pass_loop.specs.ForProofs.PutLaws.{stops_more, then_puts}
use Rattle.endpoint_pass.specs.Answering.{block_line_of}
use Rattle.endpoint_pass.proofs.endpoint.EndpointEngine.put_setup.Goals as goal

pub returns : goal.returns
returns g c =
    let old = g.O.Outputs.places c.args.outputs.now in
    let mid = g.O.Outputs.places c.put_blocks.new.outputs in
    let new = g.O.Outputs.places c.put_profiles.new.outputs in
    let held = c.args.self.now.endpoint.held in
    let put = block_line_of (muid_in held.responder.blocks) in
    let states = state_in held.responder.states in
    let P : SetupData → Type 0 =
    λ setup. Puts (for_each put 0 setup.blocks ++ profile_lines Notes states setup.profiles) old new c.put_profiles.result in
    subst P c.setup-setup.ensures
    (then_puts (for_each put 0 c.setup-setup.result.now.blocks) (profile_lines Notes states c.setup-setup.result.now.profiles) old mid new
    c.put_profiles.result c.in_ok-put_blocks.ensures c.put_profiles.ensures)

pub returns-in_err-put_blocks : goal.returns-in_err-put_blocks
returns-in_err-put_blocks g c =
    let end = c.in_err-put_blocks.field-0.0 in
    let old = g.O.Outputs.places c.args.outputs.now in
    let mid = g.O.Outputs.places c.put_blocks.new.outputs in
    let held = c.args.self.now.endpoint.held in
    let put = block_line_of (muid_in held.responder.blocks) in
    let states = state_in held.responder.states in
    let P : SetupData → Type 0 =
    λ setup. Puts (for_each put 0 setup.blocks ++ profile_lines Notes states setup.profiles) old mid (Err end) in
    let p = err_from_is_err_and c.from_residual.result c.from_residual.ensures.1 in
    rw (p.1, p.2) (subst P c.setup-setup.ensures
    (stops_more (for_each put 0 c.setup-setup.result.now.blocks) (profile_lines Notes states c.setup-setup.result.now.profiles) end old mid
    c.in_err-put_blocks.ensures))
