use Rattle.std.proofs.Common.{◌≡◌}
use Rattle.std.specs.List.{flat_map}
use Rattle.pass_loop.specs.Places.{over_puts}
use Rattle.sysex8_pass.specs.Held.{starts_in}
use Rattle.sysex8_pass.specs.Joining.{group_puts}
use Rattle.sysex8_pass.specs.Listing.{below}
use Rattle.sysex8_pass.proofs.joining.list_open.Given as goal

abbrev pub invariant-loop-number : goal.invariant-loop-number
invariant-loop-number g l =
    g.O.Outputs.places l.outputs
    ≡ over_puts (flat_map (group_puts (starts_in l.streams)) (below l.number)) (g.O.Outputs.places l.fn.outputs)
