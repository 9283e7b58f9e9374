use Rattle.std.proofs.Common.{ap, ◌∙◌}
use Rattle.clap.specs.Words.{app_of, with_rule}
use Rattle.command_line.proofs.Folds.{next_rule, still_local}
use Rattle.command_line.proofs.parser.with_arguments.Goals as goal

pub loop-argument-preserved : goal.loop-argument-preserved
loop-argument-preserved c =
    let before = app_of c.loop-argument.command in
    let added = c.in_ok-command.ensures.shape c.arg_of.ensures.local ∙ ap (with_rule before) c.arg_of.ensures.rule in
    record {
      app =
          next_rule before (app_of c.in_ok-command.command) c.args.arguments.now c.loop-argument.argument-index _ _
          c.loop-argument-test.true added c.loop-argument.invariant.app;
      local = still_local _ _ _ _ c.in_ok-command.ensures.globals c.arg_of.ensures.local c.loop-argument.invariant.local;
    }
