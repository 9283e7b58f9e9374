use Rattle.std.proofs.Common.{◌≤◌, ◌-◌}
use Rattle.system_stream.specs.Cut.{part_count}
use Rattle.function_blocks.specs.ForProofs.Pushing.{Pushes}
use Rattle.function_blocks.specs.Replies.{first_packets}
use Rattle.function_blocks.proofs.answers.push_text.Given as goal

abbrev pub invariant-loop-packet : goal.invariant-loop-packet
invariant-loop-packet l = record {
  pushes : Pushes (first_packets l.kind l.block l.text l.k) l.initial.replies l.replies;
  within : l.k ≤ part_count l.kind l.text;
}

abbrev pub decreases-loop-packet : goal.decreases-loop-packet
decreases-loop-packet l = part_count l.kind l.text - l.k
