use Rattle.std.proofs.Common.{◌≡◌, [], take, length}
use Rattle.std.specs.List.{All}
use Rattle.ci_responder.specs.Held.{IsCiBlock}
use Rattle.ci_responder.specs.History.{kept_from, spent_at}
use Rattle.ci_responder.proofs.opening.kept_blocks.Given as goal

abbrev pub invariant-loop-block : goal.invariant-loop-block
invariant-loop-block l = record {
  kept : l.kept.items ≡ kept_from 0 (spent_at l.setup []) (take l.block-index l.blocks);
  count : length l.kept.items ≡ l.block-index;
  fits : All IsCiBlock l.kept.items;
}
