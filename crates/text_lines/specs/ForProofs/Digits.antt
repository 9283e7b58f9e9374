-- For proofs alone: the digits that are written at once.
use Rattle.std.specs.Prelude.{ℕ, ◌+◌, ◌/◌, ◌%◌, List, [], ◌∷◌}

-- the two digits of a number below 100
abbrev pub two_digits : ℕ → List ℕ
two_digits number = (48 + number / 10) ∷ (48 + number % 10) ∷ []
