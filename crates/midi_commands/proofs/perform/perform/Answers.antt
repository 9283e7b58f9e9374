use Rattle.std.proofs.Common.{sym, subst}
use Rattle.command_line.specs.Asked.{asked_of}
use Rattle.endpoint_pass.specs.Answering.{answering}
use Rattle.endpoint_pass.specs.Options.{EndpointOptions as EndpointPassOptions}
use Rattle.function_blocks.specs.Setups.{SetupData}
use Rattle.packet_input.specs.Packets.{packet_cutting}
use Rattle.pass_loop.specs.Pass.{IsDoneUnless}
use Rattle.rehearsal_pass.specs.Events.{called_cutting}
use Rattle.rehearsal_pass.specs.Rehearse.{rehearsing}
use Rattle.midi_commands.specs.Command.{called_event_pass, endpoint_pass, plan_of}
use Rattle.midi_commands.specs.Run.{IsDonePlan, Objects, objects, status_after}
use Rattle.midi_commands.proofs.SetupLaws.{done_with}
use Rattle.midi_commands.proofs.perform.perform.Goals as goal

pub returns-in_ok-run-in-Endpoint-clause-complete : goal.returns-in_ok-run-in-Endpoint-clause-complete
returns-in_ok-run-in-Endpoint-clause-complete g c =
    let old : Objects = objects g.S.Source g.L.Lanes g.W.Sink g.N.Sink g.K.Shelf c.args.input.now c.args.lanes.now c.args.output.now
    c.args.notes.now c.args.shelf.now in
    let new : Objects = objects g.S.Source g.L.Lanes g.W.Sink g.N.Sink g.K.Shelf c.run_endpoint.new.input c.run_endpoint.new.lanes
    c.run_endpoint.new.output c.run_endpoint.new.notes c.setup_named.new.shelf in
    let end = c.run_endpoint.result in
    let U : EndpointPassOptions → Type 0 = λ options.
    IsDoneUnless (packet_cutting options.order) (answering options) old.seen new.seen end in
    subst (λ command. IsDonePlan (plan_of (asked_of command)) old new (status_after end)) (sym c.in-Endpoint.is)
    (done_with c.in-Endpoint.setup.now (endpoint_pass c.in-Endpoint.options) old new c.in_ok-setup-in-Endpoint.setup end
    c.in_ok-setup-in-Endpoint.ensures (subst U c.in_ok-run-in-Endpoint.ensures c.run_endpoint.ensures.complete))

pub returns-in_ok-run-in-Rehearse-clause-complete : goal.returns-in_ok-run-in-Rehearse-clause-complete
returns-in_ok-run-in-Rehearse-clause-complete g c =
    let old : Objects = objects g.S.Source g.L.Lanes g.W.Sink g.N.Sink g.K.Shelf c.args.input.now c.args.lanes.now c.args.output.now
    c.args.notes.now c.args.shelf.now in
    let new : Objects = objects g.S.Source g.L.Lanes g.W.Sink g.N.Sink g.K.Shelf c.run_rehearse.new.input c.run_rehearse.new.lanes
    c.run_rehearse.new.output c.run_rehearse.new.notes c.setup_named-in-Rehearse.new.shelf in
    let end = c.run_rehearse.result in
    let U : SetupData → Type 0 = λ setup. IsDoneUnless called_cutting (rehearsing setup) old.seen new.seen end in
    subst (λ command. IsDonePlan (plan_of (asked_of command)) old new (status_after end)) (sym c.in-Rehearse.is)
    (done_with c.in-Rehearse.setup.now called_event_pass old new c.in_ok-setup-in-Rehearse.setup end
    c.in_ok-setup-in-Rehearse.ensures (subst U c.in_ok-run-in-Rehearse.ensures c.run_rehearse.ensures.complete))
