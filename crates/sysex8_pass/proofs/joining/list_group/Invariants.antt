use Rattle.std.proofs.Common.{◌≡◌}
use Rattle.std.specs.List.{flat_map}
use Rattle.pass_loop.specs.Places.{over_puts}
use Rattle.sysex8_streams.specs.History.{key_of}
use Rattle.sysex8_pass.specs.Held.{starts_in}
use Rattle.sysex8_pass.specs.Joining.{open_put}
use Rattle.sysex8_pass.specs.Listing.{below}
use Rattle.sysex8_pass.proofs.joining.list_group.Given as goal

abbrev pub invariant-loop-number : goal.invariant-loop-number
invariant-loop-number g l =
    g.O.Outputs.places l.outputs
    ≡ over_puts (flat_map (λ stream. open_put l.group (starts_in l.streams (key_of l.group stream))) (below l.number))
    (g.O.Outputs.places l.fn.outputs)
