use Rattle.std.proofs.Common.{◌≡◌, map, drop}
use Rattle.clap.specs.Words.{app_of}
use Rattle.command_line.specs.Words.{shape_for, with_shapes}
use Rattle.command_line.proofs.parser.with_subcommands.Given as goal

abbrev pub invariant-loop-below : goal.invariant-loop-below
invariant-loop-below l = with_shapes (app_of l.command) (map shape_for (drop l.below-index l.subcommands))
    ≡ with_shapes (app_of l.fn.command) (map shape_for l.subcommands)
