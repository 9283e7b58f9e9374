-- Whether bytes are UTF-8, by what reading them as a text answers.
use Rattle.std.proofs.Common.{◌≡◌, ℕ, List, Bool, true, false, refl, sym}
use Rattle.std.specs.Prelude.{Result, Ok, Err, MatchResult, is_ok}
use Rattle.std.specs.Str.{IsUtf8, is_utf8}
use Rattle.std.proofs.lemmas.Str.{IsUtf8-from_is_utf8, is_utf8-from_IsUtf8}

pub is_ok-utf8 : {S E : Type 0} (A : S → Type 0) (B : E → Type 0) (bytes : List ℕ) (r : Result S E)
    → MatchResult r (λ s. A s × IsUtf8 bytes) (λ e. (IsUtf8 bytes → ⊥) × B e) → is_ok r ≡ is_utf8 bytes
is_ok-utf8 A B bytes (Ok s) answer = sym (is_utf8-from_IsUtf8 bytes answer.1)
is_ok-utf8 A B bytes (Err e) answer = go (is_utf8 bytes) refl
  where
    go : (t : Bool) → is_utf8 bytes ≡ t → false ≡ is_utf8 bytes
    go true is = absurd (answer.0 (IsUtf8-from_is_utf8 bytes is))
    go false is = sym is
