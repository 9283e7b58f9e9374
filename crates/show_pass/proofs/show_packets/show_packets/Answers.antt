use Rattle.std.proofs.Common.{ap, subst}
use Rattle.std.specs.Prelude.{is_some}
use Rattle.packet_words.specs.declared.words.Order.{Order}
use Rattle.pass_loop.specs.PassEnds.{PassEnds}
use Rattle.pass_loop.specs.Pass.{seen}
use Rattle.show_pass.specs.ShowPackets.{showing}
use Rattle.packet_input.specs.Packets.{packet_cutting}
use Rattle.show_pass.proofs.show_packets.show_packets.Goals as goal

pub returns : goal.returns
returns g c =
    let E : Order → Type 0 =
    λ order. PassEnds (packet_cutting order)
    (showing (record { state = is_some c.args.state; order = c.args.order; room = c.args.groups.room }))
    (seen g.S.Source g.L.Lanes g.W.Sink g.N.Sink c.args.input.now c.args.lanes.now c.args.output.now c.args.notes.now)
    (seen g.S.Source g.L.Lanes g.W.Sink g.N.Sink c.drive.new.input c.drive.new.lanes c.drive.new.output c.drive.new.notes) c.drive.result in
    subst E (ap (λ words. words.how) c.new-reader.ensures) c.drive.ensures

pub drive-requires-clause-cuts : goal.drive-requires-clause-cuts
drive-requires-clause-cuts g c = c.packets_are_cut_once.ensures c.new-reader.result.words.how 0
