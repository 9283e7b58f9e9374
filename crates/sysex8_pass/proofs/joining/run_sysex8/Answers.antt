use Rattle.std.proofs.Common.{ap, subst}
use Rattle.packet_words.specs.declared.words.Order.{Order}
use Rattle.pass_loop.specs.PassEnds.{PassEnds}
use Rattle.pass_loop.specs.Pass.{seen}
use Rattle.packet_input.specs.Packets.{packet_cutting}
use Rattle.sysex8_pass.specs.Options.{Sysex8Options, options8}
use Rattle.sysex8_pass.specs.Joining.{joining}
use Rattle.sysex8_pass.proofs.joining.run_sysex8.Goals as goal

pub drive-requires-clause-ready : goal.drive-requires-clause-ready
drive-requires-clause-ready g c =
    record {
      law = c.fed_streams_are_the_definition.ensures;
      some = c.engine.invariant.1;
      empty = c.engine.invariant.0;
      least = c.engine.invariant.2;
    }

pub returns : goal.returns
returns g c =
    let ends : Order → Sysex8Options → Type 0 =
    λ order options. PassEnds (packet_cutting order) (joining options)
    (seen g.S.Source g.L.Lanes g.W.Sink g.N.Sink c.args.input.now c.args.lanes.now c.args.output.now c.args.notes.now)
    (seen g.S.Source g.L.Lanes g.W.Sink g.N.Sink c.drive.new.input c.drive.new.lanes c.drive.new.output c.drive.new.notes) c.drive.result in
    let inside = c.engine.inside in
    let options : Sysex8Options = record (options8 inside.streams) { order = inside.order } in
    let O : Order → Type 0 = λ order. ends order options in
    let E : Sysex8Options → Type 0 = λ options. ends options.order options in
    subst E c.engine.view_is (subst O (ap (λ words. words.how) c.new-reader.ensures) c.drive.ensures)

pub drive-requires-clause-cuts : goal.drive-requires-clause-cuts
drive-requires-clause-cuts g c = c.packets_are_cut_once.ensures c.new-reader.result.words.how 0
