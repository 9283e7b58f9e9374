-- The lines of the exclusives that are still open, by what the groups have open.
use Rattle.std.specs.Prelude.{ℕ, List, Option, Some}
use Rattle.std.specs.List.{flat_map}
use Rattle.std.specs.Option.{option_map, option_to_list}
use Rattle.sysex_groups.specs.Table.{Table, begun_in}
use Rattle.listing_terms.specs.declared.listed.Kind.TheVariants as kinds
use Rattle.listing_terms.specs.declared.listed.Listed.{Listed}
use Rattle.pass_loop.specs.Put.{Put}
use Rattle.listing_lines.specs.Lines.{line_puts}

-- the line of a group whose exclusive is still open
abbrev pub open_line : Table → ℕ → Option Listed
open_line table group =
    option_map (λ start. record { offset = start; group = Some group; kind = kinds.OpenExclusive })
    (option_map (λ begun. begun.start) (begun_in table group))

-- the lines of some groups
abbrev pub open_puts : Table → List ℕ → List Put
open_puts table some = line_puts (flat_map (λ group. option_to_list (open_line table group)) some)
