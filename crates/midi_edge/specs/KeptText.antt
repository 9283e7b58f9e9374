-- A text whose first bytes are kept.
use Rattle.std.specs.Prelude.{ℕ, Bool, true, false, List, Option, None, Some, take}

-- the bytes that were kept, or nothing if no text was
abbrev pub kept_text : Bool → ℕ → List ℕ → Option (List ℕ)
kept_text true n bytes = Some (take n bytes)
kept_text false n bytes = None
