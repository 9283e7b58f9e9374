use Rattle.std.proofs.Common.{◌≡◌, take}
use Rattle.ci_responder.specs.Held.{muid_in}
use Rattle.pass_loop.specs.Places.{over_puts}
use Rattle.pass_loop.specs.Each.{for_each}
use Rattle.endpoint_pass.specs.Answering.{block_line_of}
use Rattle.endpoint_pass.proofs.endpoint.put_blocks.Given as goal

abbrev pub invariant-loop-number : goal.invariant-loop-number
invariant-loop-number g l =
    g.O.Outputs.places l.outputs
    ≡ over_puts (for_each (block_line_of (muid_in l.endpoint.held.responder.blocks)) 0 (take l.number l.setup.blocks)) (g.O.Outputs.places l.fn.outputs)
