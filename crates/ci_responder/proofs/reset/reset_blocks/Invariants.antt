use Rattle.std.proofs.Common.{◌≡◌}
use Rattle.ci_responder.proofs.ResetLaws.{reset_to}
use Rattle.ci_responder.proofs.reset.reset_blocks.Given as goal

abbrev pub invariant-loop-block : goal.invariant-loop-block
invariant-loop-block l = l.blocks ≡ reset_to l.block-index l.fn.blocks
