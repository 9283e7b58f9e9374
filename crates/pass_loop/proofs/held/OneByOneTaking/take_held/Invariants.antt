use Rattle.std.proofs.Common.{◌≡◌, ◌<◌, ◌≤◌, length}
use Rattle.std.specs.Prelude.{◌⊎◌}
use Rattle.pass_loop.specs.ForProofs.HeldLaws.{IsSoFar, with_places}
use Rattle.pass_loop.specs.Pass.{Seen}
use Rattle.pass_loop.proofs.held.OneByOneTaking.take_held.Given as goal

abbrev pub invariant-loop-at : goal.invariant-loop-at
invariant-loop-at g l =
    let reader = l.fn.reader in
    (l.place ≤ length (g.R.Items.held_bytes reader))
    × ((l.place ≡ 0) ⊎ (g.R.Items.to_go (g.R.Items.passed l.place reader) < g.R.Items.to_go reader))
    × ((first : _) (begun : _) (old now : Seen)
    → IsSoFar g.E.Engine.work g.R.Items.HasGiven g.E.Engine.Holds first begun old (with_places now (g.O.Outputs.places l.fn.outputs)) reader
    l.fn.engine
    → IsSoFar g.E.Engine.work g.R.Items.HasGiven g.E.Engine.Holds first begun old (with_places now (g.O.Outputs.places l.outputs))
    (g.R.Items.passed l.place reader) l.engine)

abbrev pub decreases-loop-at : goal.decreases-loop-at
decreases-loop-at g l = g.R.Items.to_go (g.R.Items.passed l.place l.fn.reader)
