use Rattle.std.proofs.Common.{◌≡◌, map, drop}
use Rattle.clap.specs.Words.{app_of}
use Rattle.clap.specs.declared.builder.command.Command.TheViews.{out-Command}
use Rattle.command_line.specs.Words.{rule_for, with_rules}
use Rattle.command_line.proofs.parser.with_arguments.Given as goal

abbrev pub invariant-loop-argument : goal.invariant-loop-argument
invariant-loop-argument l = record {
  app : with_rules (app_of l.command) (map rule_for (drop l.argument-index l.arguments))
      ≡ with_rules (app_of l.fn.command) (map rule_for l.arguments);
  local : (out-Command l.command).has_globals ≡ (out-Command l.fn.command).has_globals;
}
