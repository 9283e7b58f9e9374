-- The outcome of one byte of a stream, as a caller gets it.
use Rattle.std.specs.Prelude.{◌==◌, ◌||◌, if◌then◌else◌, not, ℕ, Bool, List, [], ◌∷◌}
use Rattle.c_answers.specs.Lines.{no_line}
use Rattle.c_answers.specs.declared.line.ListingLine.{ListingLine}
use Rattle.c_answers.specs.declared.outcome.ByteOutcome.{ByteOutcome}

-- the outcome of a byte at this offset, by the number of places written for it and its lines
abbrev pub outcome_of : ℕ → ℕ → ListingLine → ListingLine → ByteOutcome
outcome_of offset written first second =
    record { written = written; need = 0; offset = offset; first = first; second = second }

-- nothing is written for the byte, and it has no line
abbrev pub empty_outcome : ℕ → ByteOutcome
empty_outcome offset = outcome_of offset 0 no_line no_line

-- no byte is looked at
abbrev pub no_outcome : ByteOutcome
no_outcome = empty_outcome 0

-- the outcome of a byte that isn't taken, since the buffer is too small; one of this size does
abbrev pub needing : ℕ → ℕ → ByteOutcome
needing offset size = record { written = 0; need = size; offset = offset; first = no_line; second = no_line }

-- whether something is written for the byte, or it has a line
abbrev pub is_told : ByteOutcome → Bool
is_told outcome = not (outcome.written == 0) || not (outcome.first.kind == 0)

-- the items that a block call writes for it: one if there is anything to report
abbrev pub items_of : ByteOutcome → List ByteOutcome
items_of outcome = if is_told outcome then outcome ∷ [] else []
