-- What is put for each item of a list, with its number.
use Rattle.std.specs.Prelude.{ℕ, ◌+◌, List, [], ◌∷◌, ◌++◌}
use Rattle.pass_loop.specs.Put.{Put}

-- what is put for each of these, which are numbered from a first one on
abbrev pub for_each : {X : Type 0} → (ℕ → X → List Put) → ℕ → List X → List Put
for_each put number [] = []
for_each put number (x ∷ xs) = put number x ++ for_each put (number + 1) xs
