use Rattle.std.proofs.Common.{Bool, subst}
use Rattle.pass_loop.specs.Bytes.{byte_cutting}
use Rattle.pass_loop.specs.PassEnds.{PassEnds}
use Rattle.pass_loop.specs.Pass.{seen}
use Rattle.translation_passes.specs.Options.{UpOptions}
use Rattle.translation_passes.specs.Up.{raising}
use Rattle.translation_passes.proofs.UpLaws.{raised_bytes_mean}
use Rattle.translation_passes.proofs.up.run_up.Goals as goal

pub drive_bytes-requires-clause-ready : goal.drive_bytes-requires-clause-ready
drive_bytes-requires-clause-ready g c =
    let up = c.engine.inside.up in
    let paired : Bool = up.holding.paired in
    record {
      few = c.engine.invariant.1;
      law =
          raised_bytes_mean paired up.parsing.room up.group (c.raised_packets_mean_the_bytes.ensures paired)
          (c.rooms_that_are_not_reached_do_not_matter_in_bytes.ensures paired);
      accepted = tt;
      holds = c.engine.invariant.0;
    }

pub returns : goal.returns
returns g c =
    let E : UpOptions → Type 0 =
    λ options. PassEnds byte_cutting (raising options)
    (seen g.S.Source g.L.Lanes g.W.Sink g.N.Sink c.args.input.now c.args.lanes.now c.args.output.now c.args.notes.now)
    (seen g.S.Source g.L.Lanes g.W.Sink g.N.Sink c.drive_bytes.new.input c.drive_bytes.new.lanes c.drive_bytes.new.output c.drive_bytes.new.notes) c.drive_bytes.result in
    subst E c.engine.view_is c.drive_bytes.ensures
