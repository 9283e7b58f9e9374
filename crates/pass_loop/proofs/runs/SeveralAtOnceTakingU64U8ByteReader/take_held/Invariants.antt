use Rattle.std.proofs.Common.{length, ◌-◌, ◌≤◌}
use Rattle.item_reader.specs.Reading.{Reading, held_bytes, passed}
use Rattle.item_reader.specs.declared.byte_reader.EachByte.{EachByte}
use Rattle.pass_loop.specs.Bytes.{GivenSoFar}
use Rattle.pass_loop.specs.ForProofs.HeldLaws.{IsSoFar, with_places}
use Rattle.pass_loop.specs.Pass.{Seen}
use Rattle.pass_loop.proofs.runs.SeveralAtOnceTakingU64U8ByteReader.take_held.Given as goal

abbrev pub invariant-loop-place : goal.invariant-loop-place
invariant-loop-place g l =
    (l.place ≤ length (held_bytes l.fn.reader))
    × ((first : Reading EachByte) (begun : _) (old now : Seen)
    → IsSoFar g.E.Engine.work (λ first reader so_far. GivenSoFar reader so_far) g.E.Engine.Holds first begun old
    (with_places now (g.O.Outputs.places l.fn.outputs)) l.fn.reader l.fn.engine
    → IsSoFar g.E.Engine.work (λ first reader so_far. GivenSoFar reader so_far) g.E.Engine.Holds first begun old
    (with_places now (g.O.Outputs.places l.outputs)) (passed l.place l.fn.reader) l.engine)

abbrev pub decreases-loop-place : goal.decreases-loop-place
decreases-loop-place g l = length (held_bytes l.fn.reader) - l.place
