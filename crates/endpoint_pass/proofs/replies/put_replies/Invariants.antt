use Rattle.std.proofs.Common.{List, [], length}
use Rattle.ump_grammar.specs.declared.packet.Packet.{Packet}
use Rattle.ump_grammar.specs.Replies.{AddsPackets}
use Rattle.endpoint_pass.proofs.ReplyLaws.{PutSoFar}
use Rattle.endpoint_pass.proofs.replies.put_replies.Given as goal

abbrev pub invariant-loop-packet : goal.invariant-loop-packet
invariant-loop-packet g l = (packets : List Packet) → AddsPackets packets [] l.fn.replies →
    PutSoFar l.order packets l.rest (g.O.Outputs.places l.fn.outputs) (g.O.Outputs.places l.outputs)

abbrev pub decreases-loop-packet : goal.decreases-loop-packet
decreases-loop-packet g l = length l.rest
