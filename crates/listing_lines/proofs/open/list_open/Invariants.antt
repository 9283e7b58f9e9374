use Rattle.std.proofs.Common.{◌≡◌, take}
use Rattle.listing_terms.specs.ExclusiveLines.{groups}
use Rattle.pass_loop.specs.Places.{over_puts}
use Rattle.listing_lines.specs.Open.{open_puts}
use Rattle.listing_lines.proofs.open.list_open.Given as goal

abbrev pub invariant-loop-number : goal.invariant-loop-number
invariant-loop-number g l =
    g.O.Outputs.places l.outputs
    ≡ over_puts (open_puts (g.H.OpenExclusives.table l.held) (take l.number groups)) (g.O.Outputs.places l.fn.outputs)
