use Rattle.std.proofs.Common.{ap, subst}
use Rattle.packet_words.specs.declared.words.Order.{Order}
use Rattle.pass_loop.specs.PassEnds.{PassEnds}
use Rattle.pass_loop.specs.Pass.{seen}
use Rattle.packet_input.specs.Packets.{packet_cutting}
use Rattle.endpoint_pass.specs.Answering.{answering}
use Rattle.endpoint_pass.specs.Options.{EndpointOptions}
use Rattle.endpoint_pass.proofs.endpoint.run_endpoint.Goals as goal

pub returns : goal.returns
returns g c =
    let ends : Order → EndpointOptions → Type 0 =
    λ order options. PassEnds (packet_cutting order) (answering options)
    (seen g.S.Source g.L.Lanes g.W.Sink g.N.Sink c.args.input.now c.args.lanes.now c.args.output.now c.args.notes.now)
    (seen g.S.Source g.L.Lanes g.W.Sink g.N.Sink c.drive.new.input c.drive.new.lanes c.drive.new.output c.drive.new.notes) c.drive.result in
    let inside = c.engine.inside in
    let options : EndpointOptions =
    record { setup = inside.endpoint.held.setup; order = inside.order; room = inside.endpoint.held.exclusives.room } in
    let O : Order → Type 0 = λ order. ends order options in
    let E : EndpointOptions → Type 0 = λ options. ends options.order options in
    subst E c.engine.view_is (subst O (ap (λ words. words.how) c.new-reader.ensures) c.drive.ensures)

pub drive-requires-clause-cuts : goal.drive-requires-clause-cuts
drive-requires-clause-cuts g c = c.packets_are_cut_once.ensures c.new-reader.result.words.how 0
