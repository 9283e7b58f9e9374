use Rattle.std.proofs.Common.{◌≡◌, ◌≤◌, drop, length}
use Rattle.std.specs.List.{All}
use Rattle.toml.specs.View.{items_view}
use Rattle.function_blocks.specs.Keys.{numbers_in}
use Rattle.function_blocks.proofs.KeyLaws.{joined}
use Rattle.function_blocks.proofs.keys.wide_numbers_in.Given as goal

abbrev pub invariant-loop-value : goal.invariant-loop-value
invariant-loop-value g l = record {
  count : length l.numbers ≡ l.value-index;
  most : All (λ n. n ≤ l.most) l.numbers;
  rest : joined l.numbers (numbers_in l.most (items_view (drop l.value-index l.values))) ≡ numbers_in l.most (items_view l.values);
}
