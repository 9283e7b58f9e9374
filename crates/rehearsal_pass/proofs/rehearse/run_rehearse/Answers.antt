use Rattle.std.proofs.Common.{subst}
use Rattle.function_blocks.specs.Setups.{SetupData}
use Rattle.pass_loop.specs.PassEnds.{PassEnds}
use Rattle.pass_loop.specs.Pass.{seen}
use Rattle.rehearsal_pass.specs.Events.{called_cutting}
use Rattle.rehearsal_pass.specs.Rehearse.{rehearsing}
use Rattle.rehearsal_pass.proofs.rehearse.run_rehearse.Goals as goal

pub drive-requires-clause-ready : goal.drive-requires-clause-ready
drive-requires-clause-ready g c =
    let is = c.run.invariant in
    record {
      sound = record {
        stages = c.stage_is_the_course.ensures;
        held = c.what_is_held_was_told.ensures;
        distinct = is.distinct;
        ids = is.ids;
      };
      first = is.first;
    }

pub returns : goal.returns
returns g c =
    let E : SetupData → Type 0 =
    λ options. PassEnds called_cutting (rehearsing options)
    (seen g.S.Source g.L.Lanes g.W.Sink g.N.Sink c.args.input.now c.args.lanes.now c.args.output.now c.args.notes.now)
    (seen g.S.Source g.L.Lanes g.W.Sink g.N.Sink c.drive.new.input c.drive.new.lanes c.drive.new.output c.drive.new.notes) c.drive.result in
    subst E c.run.view_is c.drive.ensures
