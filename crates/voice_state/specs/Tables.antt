-- What a table has at an index, and what is told of it.
use Rattle.std.specs.Prelude.{ℕ, ◌-◌, List, Option, None, slice_index_or}
use Rattle.std.specs.List.{flat_map, range_with_len}
use Rattle.std.specs.Option.{option_map, option_to_list}
use Rattle.voice_state.specs.declared.fact.Fact.{Fact}
use Rattle.voice_state.specs.declared.fact.Fact.TheVariants as fact
use Rattle.voice_state.specs.declared.table.Content.{Content}
use Rattle.voice_state.specs.declared.table.Content.TheVariants as content

abbrev pub at : List (Option ℕ) → ℕ → Option ℕ
at cells index = slice_index_or cells index None

abbrev pub table_fact : Content → ℕ → ℕ → ℕ → ℕ → Fact
table_fact content.KeyPressures group channel note value = fact.Poly group channel note value
table_fact content.Controllers group channel index value = fact.Control group channel index value

-- the numbers from one on and below another, in order; a name that stands for its list, which may be long
unfoldable pub numbers : ℕ → ℕ → List ℕ
numbers from below = range_with_len from (below - from)

-- what is told of the values from an index on
abbrev pub table_left : (ℕ → ℕ → Fact) → List (Option ℕ) → ℕ → List Fact
table_left fact_of cells from = flat_map (λ index. option_to_list (option_map (fact_of index) (at cells index))) (numbers from 128)
