use Rattle.std.proofs.Common.{◌≡◌, ◌≤◌, ◌*◌, take, length}
use Rattle.function_blocks.specs.Blocks.{muids_of}
use Rattle.function_blocks.proofs.blocks.all_muids.Given as goal

abbrev pub invariant-loop-block : goal.invariant-loop-block
invariant-loop-block l = record {
  muids : l.muids ≡ muids_of (take l.block-index l.blocks);
  few : length l.muids ≤ 16 * l.block-index;
}
