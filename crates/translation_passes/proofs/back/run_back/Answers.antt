use Rattle.std.proofs.Common.{Bool, [], refl, subst}
use Rattle.pass_loop.specs.Bytes.{byte_cutting}
use Rattle.pass_loop.specs.PassEnds.{PassEnds}
use Rattle.pass_loop.specs.Pass.{seen}
use Rattle.translation_passes.specs.Options.{BackOptions}
use Rattle.translation_passes.specs.Back.{returning}
use Rattle.translation_passes.proofs.BackLaws.{returned_bytes_mean}
use Rattle.translation_passes.proofs.back.run_back.Goals as goal

pub drive_bytes-requires-clause-ready : goal.drive_bytes-requires-clause-ready
drive_bytes-requires-clause-ready g c =
    let up = c.engine.inside.up in
    let is = c.engine.invariant in
    let paired : Bool = up.holding.paired in
    record {
      few = is.3;
      least = is.2;
      law =
          returned_bytes_mean paired up.parsing.room up.group is.3 (c.bytes_that_come_back_mean_the_same.ensures paired)
          (c.rooms_that_are_not_reached_do_not_matter_in_bytes.ensures paired);
      accepted = tt;
      holds_up = is.0;
      holds_down = record { placed = []; are = refl; range = tt; down_is = is.1 };
    }

pub returns : goal.returns
returns g c =
    let E : BackOptions → Type 0 =
    λ options. PassEnds byte_cutting (returning options)
    (seen g.S.Source g.L.Lanes g.W.Sink g.N.Sink c.args.input.now c.args.lanes.now c.args.output.now c.args.notes.now)
    (seen g.S.Source g.L.Lanes g.W.Sink g.N.Sink c.drive_bytes.new.input c.drive_bytes.new.lanes c.drive_bytes.new.output c.drive_bytes.new.notes) c.drive_bytes.result in
    subst E c.engine.view_is c.drive_bytes.ensures
