use Rattle.ci_responder.proofs.ResetLaws.{reset_all, reset_fit, reset_more}
use Rattle.ci_responder.proofs.reset.reset_blocks.Goals as goal

pub loop-block-preserved : goal.loop-block-preserved
loop-block-preserved c =
    reset_more c.args.blocks.now c.loop-block.blocks c.loop-block.block-index c.block-item.result c.loop-block.invariant

pub returns-clause-value : goal.returns-clause-value
returns-clause-value c =
    reset_all c.args.blocks.now c.loop-block.blocks c.loop-block.block-index c.loop-block.invariant c.loop-block-test.false
    c.loop-block.auto.block-index-end

pub returns-clause-fits : goal.returns-clause-fits
returns-clause-fits c =
    reset_fit c.args.blocks.now c.loop-block.blocks
    (reset_all c.args.blocks.now c.loop-block.blocks c.loop-block.block-index c.loop-block.invariant c.loop-block-test.false
    c.loop-block.auto.block-index-end)
    c.requires
