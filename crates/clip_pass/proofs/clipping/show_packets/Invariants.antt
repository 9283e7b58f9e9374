use Rattle.std.proofs.Common.{◌-◌}
use Rattle.item_reader.specs.SoFar.{given}
use Rattle.pass_loop.specs.ForProofs.PassLaws.{SoFar}
use Rattle.pass_loop.specs.Pass.{seen_with}
use Rattle.clip_pass.specs.Clipping.{clipping}
use Rattle.clip_pass.specs.Ends.{with_header}
use Rattle.clip_pass.proofs.HeaderLaws.{HasGiven}
use Rattle.clip_pass.proofs.StepLaws.{HoldsClip}
use Rattle.clip_pass.proofs.clipping.show_packets.Given as goal

abbrev pub invariant-loop-at : goal.invariant-loop-at
invariant-loop-at g l =
    SoFar clipping
    (λ items. HasGiven l.words l.size (given (g.S.Source.left l.fn.input) (g.S.Source.left l.input) items))
    (λ past. HoldsClip l.clip past)
    (with_header (seen_with g.S.Source l.fn.input (g.O.Outputs.places l.fn.outputs)))
    (seen_with g.S.Source l.input (g.O.Outputs.places l.outputs))

abbrev pub decreases-loop-at : goal.decreases-loop-at
decreases-loop-at g l = l.words.limit - l.words.offset
