-- How `clap` is told of the words of a subcommand, and what is found of them.
use Rattle.std.specs.Prelude.{Bool, true, false, List, [], ◌∷◌, codes, map, Some, is_some, if◌then◌else◌}
use Rattle.std.specs.Option.{option_map_or}
use Rattle.std.specs.Str.{bytes_eq}
use Rattle.clap.specs.Walk.{Text, Row, Rule, first_of}
use Rattle.clap.specs.Simple.{App, Shape, new_app, new_rule, with_rule, with_subcommand}
use Rattle.command_line.specs.declared.subcommand.Argument.{Argument}
use Rattle.command_line.specs.declared.subcommand.Argument.TheVariants.{Positional, Option, Flag}
use Rattle.command_line.specs.declared.subcommand.Subcommand.{Subcommand}
use Rattle.clap.specs.declared.builder.ArgAction.TheVariants.{Set, SetTrue}
use Rattle.packet_words.specs.declared.words.Order.{Order}
use Rattle.packet_words.specs.declared.words.Order.TheVariants.{Big, Little}

-- a word that stands by its place and must be given
abbrev pub positional : Text → Rule
positional id = record (new_rule id) { required = true; action = Some Set }

-- an option by its long name, with a text as value
abbrev pub option : Text → Rule
option id = record (new_rule id) { long = Some id; action = Some Set }

-- an option by its long name, without a value
abbrev pub flag : Text → Rule
flag id = record (new_rule id) { long = Some id; action = Some SetTrue }

abbrev pub with_rules : App → List Rule → App
with_rules a [] = a
with_rules a (r ∷ rs) = with_rules (with_rule a r) rs

abbrev pub with_shapes : App → List Shape → App
with_shapes a [] = a
with_shapes a (s ∷ ss) = with_shapes (with_subcommand a s) ss

-- what `clap` is told of an argument of the table
abbrev pub rule_for : Argument → Rule
rule_for (Positional id) = positional id.now
rule_for (Option id) = option id.now
rule_for (Flag id) = flag id.now

-- what it is told of a subcommand of the table
abbrev pub shape_for : Subcommand → Shape
shape_for s = (with_rules (new_app s.name.now) (map rule_for s.arguments.now)).top

-- a flag is given: the matches of words have a row "true" or "false" for it
abbrev pub is_set : Text → List Row → Bool
is_set id rows = option_map_or (λ t. bytes_eq t (codes "true")) (first_of id rows) false

-- an option is given
abbrev pub is_given : Text → List Row → Bool
is_given id rows = is_some (first_of id rows)

-- the order of the bytes of a word: big endian, or little endian with `--little`
abbrev pub word_order : List Row → Order
word_order rows = if is_set (codes "little") rows then Little else Big
