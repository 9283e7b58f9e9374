use Rattle.std.proofs.Common.{◌≡◌, drop, map, length}
use Rattle.std.specs.List.{All}
use Rattle.toml.specs.View.{view}
use Rattle.function_blocks.specs.Blocks.{IsBlock, block_in}
use Rattle.function_blocks.specs.Keys.{each}
use Rattle.function_blocks.specs.declared.rules.Rule.TheVariants as rule
use Rattle.function_blocks.proofs.KeyLaws.{read_on}
use Rattle.function_blocks.proofs.blocks.read_each_block.Given as goal

abbrev pub invariant-loop-value : goal.invariant-loop-value
invariant-loop-value l = record {
  count : length l.blocks.items ≡ l.value-index;
  fits : All IsBlock l.blocks.items;
  rest : read_on l.blocks.items (each rule.BlocksAreTables block_in (map view (drop l.value-index l.values)))
      ≡ each rule.BlocksAreTables block_in (map view l.values);
}
