-- The header of a clip file (own rule): the eight characters SMF2CLIP.
use Rattle.std.specs.Prelude.{◌≡◌, ◌↔◌, ◌<◌, ◌≤◌, ℕ, Bool, true, List, length, codes, Option, Result, MatchResult}
use Rattle.outside.specs.Outside.{IsUsedUp, Loses}
use Rattle.outside.specs.declared.objects.Failed.{Failed}

abbrev pub header_bytes : List ℕ
header_bytes = codes "SMF2CLIP"

-- these eight bytes were taken, or all that were left; the answer says whether they are the header
pub record HasTaken (old new : Option (List ℕ)) (is_header : Bool) : Type 0 where
  pub taken : List ℕ
  pub lost : Loses old new taken
  pub most : length taken ≤ 8
  pub all : length taken < 8 → IsUsedUp new
  pub told : (is_header ≡ true) ↔ (taken ≡ header_bytes)

-- a `header` takes that, or at `Err` fewer than eight bytes
abbrev pub TakesHeader : Option (List ℕ) → Option (List ℕ) → Result Bool Failed → Type 0
TakesHeader old new result =
    MatchResult result (λ is_header. HasTaken old new is_header) (λ _. (taken : List ℕ) × (length taken < 8) × Loses old new taken)
