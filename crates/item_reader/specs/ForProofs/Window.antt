-- What a window holds.
use Rattle.std.specs.Prelude.{ℕ, List}

-- the bytes that were taken and not given out, and how many at their front are allowed to be
pub record Held : Type 0 where
  pub bytes : List ℕ
  pub allowed : ℕ
