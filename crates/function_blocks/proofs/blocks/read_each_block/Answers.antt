use Rattle.std.proofs.Common.{◌≡◌, [], ◌∷◌, ◌++◌, List, length, arith, ap, length-append, subst, sym}
use Rattle.std.specs.List.{All}
use Rattle.std.proofs.lemmas.List.Elements.{All-append, All-cons, All-nil}
use Rattle.function_blocks.specs.declared.setup.Block.{Block}
use Rattle.function_blocks.specs.declared.rules.Rule.TheVariants as rule
use Rattle.function_blocks.specs.Blocks.{IsBlock, block_in}
use Rattle.function_blocks.proofs.KeyLaws.{each_more}
use Rattle.function_blocks.proofs.blocks.read_each_block.Goals as goal

pub loop-value-preserved : goal.loop-value-preserved
loop-value-preserved c =
    let before : List Block = c.loop-value.blocks.items in
    let block : Block = c.in_ok-block.block in
    let more : c.push.new.self.items ≡ before ++ block ∷ [] = c.in-Ok.ensures.items in
    let P : List Block → Type 0 = All IsBlock in
    record {
      count = omega (arith, ap length more, length-append before (block ∷ []), c.loop-value.invariant.count);
      fits =
          subst P (sym more) (All-append IsBlock before (block ∷ []) c.loop-value.invariant.fits
          (All-cons IsBlock block [] c.in_ok-block.ensures.fits (All-nil IsBlock)));
      rest =
          each_more rule.BlocksAreTables block_in before c.push.new.self.items block c.args.values.now c.loop-value.value-index
          c.value-item.result c.loop-value-test.true c.value-item.is c.in_ok-block.ensures.value more c.loop-value.invariant.rest;
    }
