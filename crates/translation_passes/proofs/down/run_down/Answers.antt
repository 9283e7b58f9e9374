use Rattle.std.proofs.Common.{ap, subst}
use Rattle.packet_words.specs.declared.words.Order.{Order}
use Rattle.down_translator.specs.Held.{limit_of, paired_of, style_of}
use Rattle.pass_loop.specs.PassEnds.{PassEnds}
use Rattle.pass_loop.specs.Pass.{seen}
use Rattle.packet_input.specs.Packets.{packet_cutting}
use Rattle.translation_passes.specs.Options.{DownOptions}
use Rattle.translation_passes.specs.Down.{carrying}
use Rattle.translation_passes.proofs.down.run_down.Goals as goal

pub returns : goal.returns
returns g c =
    let ends : Order → DownOptions → Type 0 =
    λ order options. PassEnds (packet_cutting order) (carrying options)
    (seen g.S.Source g.L.Lanes g.W.Sink g.N.Sink c.args.input.now c.args.lanes.now c.args.output.now c.args.notes.now)
    (seen g.S.Source g.L.Lanes g.W.Sink g.N.Sink c.drive.new.input c.drive.new.lanes c.drive.new.output c.drive.new.notes) c.drive.result in
    let inside = c.engine.inside in
    let options : DownOptions =
    record { paired = paired_of inside.down; style = style_of inside.down; order = inside.order; room = limit_of inside.down } in
    let O : Order → Type 0 = λ order. ends order options in
    let E : DownOptions → Type 0 = λ options. ends options.order options in
    subst E c.engine.view_is (subst O (ap (λ words. words.how) c.new-reader.ensures) c.drive.ensures)

pub drive-requires-clause-cuts : goal.drive-requires-clause-cuts
drive-requires-clause-cuts g c = c.packets_are_cut_once.ensures c.new-reader.result.words.how 0
