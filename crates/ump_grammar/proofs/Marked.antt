-- Bytes in places of seven bits.
use Rattle.std.proofs.Common.{◌-◌, ◌++◌, replicate, ◌≡◌, ◌<◌, ◌≤◌, ℕ, Bool, true, false, ◌||◌}
use Rattle.std.proofs.Common.{leb, List, [], ◌∷◌, length, get_or, take, refl, ap, sym, ◌∙◌, arith}
use Rattle.std.specs.List.{All}
use Rattle.std.proofs.lemmas.Bool.{true≢false, leb-false, lt-leb}
use Rattle.std.proofs.lemmas.List.Elements.{All-nil, All-cons, All-weaker}
use Rattle.std.proofs.lemmas.List.Folds.{list_any_none}
use Rattle.std.proofs.Math.Seq.{take-append_seam}
use Rattle.ump_grammar.specs.Reason.{has_high}

abbrev pub IsSmall : ℕ → Type 0
IsSmall b = b < 128

-- data bytes have no high one among them
pub has_high-small : (bytes : List ℕ) → All (λ b. b < 128) bytes → has_high bytes ≡ false
has_high-small bytes small =
    list_any_none (leb 128) bytes (All-weaker IsSmall (λ b. leb 128 b ≡ false) (λ b. lt-leb 128 b) bytes small)

small-cons : (t : Bool) (x : ℕ) (xs : List ℕ) → leb 128 x ≡ t → (t || has_high xs) ≡ false → (has_high xs ≡ false → All IsSmall xs)
    → All IsSmall (x ∷ xs)
small-cons true x xs e none rest = absurd (true≢false none)
small-cons false x xs e none rest = All-cons IsSmall x xs (leb-false 128 x e) (rest none)

-- bytes with no high one among them are data bytes
pub small-has_high : (bytes : List ℕ) → has_high bytes ≡ false → All (λ b. b < 128) bytes
small-has_high [] none = All-nil IsSmall
small-has_high (x ∷ xs) none = small-cons (leb 128 x) x xs refl none (small-has_high xs)

-- the six places hold the bytes, and zeros after them
pub append-zeros : (bytes : List ℕ) → length bytes ≤ 6
    → (get_or bytes 0 0 ∷ get_or bytes 1 0 ∷ get_or bytes 2 0 ∷ get_or bytes 3 0 ∷ get_or bytes 4 0 ∷ get_or bytes 5 0 ∷ [])
    ≡ bytes ++ replicate (6 - length bytes) 0
append-zeros [] few = refl
append-zeros (a ∷ []) few = refl
append-zeros (a ∷ b ∷ []) few = refl
append-zeros (a ∷ b ∷ c ∷ []) few = refl
append-zeros (a ∷ b ∷ c ∷ d ∷ []) few = refl
append-zeros (a ∷ b ∷ c ∷ d ∷ e ∷ []) few = refl
append-zeros (a ∷ b ∷ c ∷ d ∷ e ∷ f ∷ []) few = refl
append-zeros (a ∷ b ∷ c ∷ d ∷ e ∷ f ∷ g ∷ rest) few = absurd (omega arith)

-- so they are the first ones in these places
pub take-six : (bytes : List ℕ) → length bytes ≤ 6
    → bytes
    ≡ take (length bytes)
    (get_or bytes 0 0 ∷ get_or bytes 1 0 ∷ get_or bytes 2 0 ∷ get_or bytes 3 0 ∷ get_or bytes 4 0 ∷ get_or bytes 5 0 ∷ [])
take-six bytes few =
    sym (take-append_seam bytes (replicate (6 - length bytes) 0)) ∙ ap (λ places. take (length bytes) places) (sym (append-zeros bytes few))
