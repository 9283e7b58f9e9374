use Rattle.std.proofs.Common.{take, List, arith, subst, sym}
use Rattle.ump_grammar.specs.declared.packet.Packet.{Packet}
use Rattle.function_blocks.specs.ForProofs.Pushing.{Pushes}
use Rattle.function_blocks.specs.Replies.{block_replies, replies_from}
use Rattle.function_blocks.proofs.PushLaws.{from-more, pushes_append}
use Rattle.function_blocks.proofs.answers.push_blocks.Goals as goal

pub loop-number-preserved : goal.loop-number-preserved
loop-number-preserved c =
    let blocks = c.args.blocks.now in
    let number = c.loop-number.number in
    let block = c.index-blocks-number.result in
    let P : List Packet → Type 0 = λ ps. Pushes ps c.args.replies.now c.push_block.new.replies in
    record {
      pushes = subst P (sym (from-more c.args.filter blocks number block c.loop-number-test.true c.index-blocks-number.is))
          (pushes_append (replies_from c.args.filter 0 (take number blocks)) (block_replies c.args.filter number block) c.args.replies.now
          c.loop-number.replies c.push_block.new.replies c.loop-number.invariant.pushes c.push_block.ensures.pushes);
      few = omega arith;
    }
