use Rattle.item_reader.specs.SoFar.{given}
use Rattle.pass_loop.specs.ForProofs.PassLaws.{SoFar}
use Rattle.pass_loop.specs.Pass.{seen_with}
use Rattle.pass_loop.proofs.pass.drive_into.Given as goal

abbrev pub invariant-loop-reader : goal.invariant-loop-reader
invariant-loop-reader g l =
    SoFar (g.E.Engine.work l.fn.engine)
    (λ items. g.R.Items.HasGiven l.fn.reader l.reader (given (g.S.Source.left l.fn.input) (g.S.Source.left l.input) items))
    (λ past. g.E.Engine.Holds l.fn.engine l.engine past)
    (seen_with g.S.Source l.fn.input (g.O.Outputs.places l.fn.outputs))
    (seen_with g.S.Source l.input (g.O.Outputs.places l.outputs))

abbrev pub decreases-loop-reader : goal.decreases-loop-reader
decreases-loop-reader g l = g.R.Items.to_go l.reader
