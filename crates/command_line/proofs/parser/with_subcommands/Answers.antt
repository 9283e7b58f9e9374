use Rattle.command_line.proofs.Folds.{next_shape}
use Rattle.command_line.proofs.parser.with_subcommands.Goals as goal

pub loop-below-preserved : goal.loop-below-preserved
loop-below-preserved c =
    next_shape _ _ c.args.subcommands.now c.loop-below.below-index _ _ c.loop-below-test.true c.in_ok-command.ensures.app
    c.loop-below.invariant
