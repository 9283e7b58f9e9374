use Rattle.std.proofs.Common.{◌≤◌, ◌*◌, take, length}
use Rattle.function_blocks.specs.ForProofs.Pushing.{Pushes}
use Rattle.function_blocks.specs.Replies.{replies_from}
use Rattle.function_blocks.proofs.answers.push_blocks.Given as goal

abbrev pub invariant-loop-number : goal.invariant-loop-number
invariant-loop-number l = record {
  pushes : Pushes (replies_from l.filter 0 (take l.number l.blocks)) l.initial.replies l.replies;
  few : length l.replies ≤ 32 * l.number;
}
