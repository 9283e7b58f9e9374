use Rattle.std.proofs.Common.{◌≡◌, ◌≤◌, true, leb, length, map, arith, ◌∙◌}
use Rattle.std.proofs.lemmas.Bool.{le-leb}
use Rattle.std.proofs.lemmas.List.{length-map}
use Rattle.toml.specs.View.{view}
use Rattle.function_blocks.proofs.KeyLaws.{all_tables_of_view}
use Rattle.function_blocks.proofs.keys.are_tables.Goals as goal

pub returns-then-values-most : goal.returns-then-values-most
returns-then-values-most c =
    let values = c.args.values.now in
    let few : length values ≤ c.args.most = c.if-values-most.true in
    let short : leb (length (map view values)) c.args.most ≡ true = le-leb _ _ (omega (arith, few, length-map values view)) in
    rw short (c.are_each_tables.ensures ∙ all_tables_of_view values)
