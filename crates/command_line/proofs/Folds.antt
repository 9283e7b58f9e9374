-- What a table adds to a command, one row after the other.
use Rattle.std.proofs.Common.{◌≡◌, ◌<◌, ◌+◌, ◌||◌, ℕ, Bool, true, false, refl, List, length, map, drop, get_or, ap, sym, ◌∙◌}
use Rattle.std.proofs.lemmas.List.{at_drop_more}
use Rattle.clap.specs.Words.{App, with_rule, with_subcommand}
use Rattle.command_line.specs.declared.subcommand.Argument.{Argument}
use Rattle.command_line.specs.declared.subcommand.Subcommand.{Subcommand}
use Rattle.command_line.specs.Words.{rule_for, shape_for, with_rules, with_shapes}

pub next_rule : (before after : App) (xs : List Argument) (i : ℕ) (d : Argument) (all : App) → i < length xs
    → after ≡ with_rule before (rule_for (get_or xs i d))
    → with_rules before (map rule_for (drop i xs)) ≡ all → with_rules after (map rule_for (drop (i + 1) xs)) ≡ all
next_rule before after xs i d all below more rest =
    ap (λ a. with_rules a (map rule_for (drop (i + 1) xs))) more
    ∙ sym (at_drop_more (λ ys. with_rules before (map rule_for ys)) xs i d below)
    ∙ rest

pub next_shape : (before after : App) (xs : List Subcommand) (i : ℕ) (d : Subcommand) (all : App) → i < length xs
    → after ≡ with_subcommand before (shape_for (get_or xs i d))
    → with_shapes before (map shape_for (drop i xs)) ≡ all → with_shapes after (map shape_for (drop (i + 1) xs)) ≡ all
next_shape before after xs i d all below more rest =
    ap (λ a. with_shapes a (map shape_for (drop (i + 1) xs))) more
    ∙ sym (at_drop_more (λ ys. with_shapes before (map shape_for ys)) xs i d below)
    ∙ rest

or_false : (b : Bool) → (b || false) ≡ b
or_false true = refl
or_false false = refl

pub still_local : (first before argument after : Bool) → after ≡ (before || argument) → argument ≡ false → before ≡ first → after ≡ first
still_local first before argument after is local same = is ∙ ap (λ b. before || b) local ∙ or_false before ∙ same
