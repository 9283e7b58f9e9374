-- The lines of the listing that a byte has.
use Rattle.std.specs.Prelude.{ℕ, Bool, ◌&&◌, is_none, List, ◌++◌, Option, Some, None}
use Rattle.std.specs.Option.{option_map, option_to_list}
use Rattle.listing_terms.specs.declared.listed.Kind.{Kind}
use Rattle.listing_terms.specs.declared.listed.Listed.{Listed}
use Rattle.listing_terms.specs.declared.byte_lines.ByteLines.{ByteLines}
use Rattle.listing_terms.specs.declared.byte_lines.ByteLine.{ByteLine}

-- a line has the group into which the bytes are raised
abbrev pub line_up : ℕ → Kind × ℕ → Listed
line_up group told = record { offset = told.1; group = Some group; kind = told.0 }

abbrev pub group_of : ByteLines → ℕ
group_of lines = lines.group.number

-- its kind and offset
abbrev pub told_of : ByteLine → Kind × ℕ
told_of line = (line.kind, line.offset)

abbrev pub line_by : ℕ → ByteLine → Listed
line_by group line = record { offset = line.offset; group = Some group; kind = line.kind }

abbrev pub first_in : ByteLines → Option Listed
first_in lines = option_map (line_by (group_of lines)) lines.first

abbrev pub second_in : ByteLines → Option Listed
second_in lines = option_map (line_by (group_of lines)) lines.second

-- all of them, in order
abbrev pub lines_in : ByteLines → List Listed
lines_in lines = option_to_list (first_in lines) ++ option_to_list (second_in lines)

abbrev pub has_none : ByteLines → Bool
has_none lines = is_none (first_in lines) && is_none (second_in lines)

abbrev pub AreInOrder : {X : Type 0} → Option X → Option X → Type 0
AreInOrder None (Some line) = ⊥
AreInOrder _ _ = Unit {0}

-- there is no second line without a first
abbrev pub IsInOrder : ByteLines → Type 0
IsInOrder lines = AreInOrder lines.first lines.second
