use Rattle.std.proofs.Common.{sym, ◌∙◌, ap, subst}
use Rattle.midi1_bytes.specs.Parsing.{Parsing}
use Rattle.pass_loop.specs.Bytes.{byte_cutting}
use Rattle.pass_loop.specs.PassEnds.{PassEnds}
use Rattle.pass_loop.specs.Pass.{seen}
use Rattle.usb_midi1.specs.Held.{PackerState}
use Rattle.usb_passes.specs.Options.{PackOptions}
use Rattle.usb_passes.specs.Pack.{packing}
use Rattle.usb_passes.proofs.pack.run_pack.Goals as goal

pub drive-requires-clause-ready : goal.drive-requires-clause-ready
drive-requires-clause-ready g c =
    let packer : PackerState = c.engine.inside.packer in
    let with : Parsing → PackerState = λ parsing. record { cable = packer.cable; parsing = parsing } in
    record {
      few = c.engine.invariant.1;
      law = c.split_events_mean_the_bytes.ensures;
      within = tt;
      packer_is = ap with c.engine.invariant.0 ∙ sym (c.packed_bytes_are_the_definition.ensures.new packer.parsing.room packer.cable);
    }

pub returns : goal.returns
returns g c =
    let E : PackOptions → Type 0 =
    λ options. PassEnds byte_cutting (packing options)
    (seen g.S.Source g.L.Lanes g.W.Sink g.N.Sink c.args.input.now c.args.lanes.now c.args.output.now c.args.notes.now)
    (seen g.S.Source g.L.Lanes g.W.Sink g.N.Sink c.drive.new.input c.drive.new.lanes c.drive.new.output c.drive.new.notes) c.drive.result in
    subst E c.engine.view_is c.drive.ensures
