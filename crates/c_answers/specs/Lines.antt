-- A line of the listing as a caller gets it.
use Rattle.std.specs.Prelude.{ℕ, List, [], ◌∷◌, Option, Some, None}
use Rattle.listing_terms.specs.declared.listed.Kind.{Kind}
use Rattle.listing_terms.specs.declared.listed.Listed.{Listed}
use Rattle.c_answers.specs.Numbers.{kind_number}
use Rattle.c_answers.specs.declared.line.ListingLine.{ListingLine}

abbrev pub no_line : ListingLine
no_line = record { offset = 0; kind = 0 }

-- a line by its kind and offset
abbrev pub line_of : Kind × ℕ → ListingLine
line_of told = record { offset = told.1; kind = kind_number told.0 }

abbrev pub first_line : List (Kind × ℕ) → ListingLine
first_line [] = no_line
first_line (told ∷ more) = line_of told

abbrev pub second_line : List (Kind × ℕ) → ListingLine
second_line [] = no_line
second_line (told ∷ []) = no_line
second_line (told ∷ second ∷ more) = line_of second

-- the same of a line with a group, which is left out
abbrev pub listed_line : Option Listed → ListingLine
listed_line None = no_line
listed_line (Some listed) = line_of (listed.kind, listed.offset)
