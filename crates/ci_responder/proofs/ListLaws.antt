-- Items of a list by their places.
use Rattle.std.proofs.Common.{arith, ◌≡◌, ◌<◌, ◌≤◌, ◌+◌, ◌-◌, ◌∙◌, ap, sym, refl, ℕ, zero, suc, List, [], ◌∷◌, ◌++◌}
use Rattle.std.proofs.Common.{length, length-append, take, drop, get_or, slice_get, None, Some, is_some, true≢false}
use Rattle.std.proofs.lemmas.List.{take_more}

-- the item at a place
pub got : {X : Type 0} (xs : List X) (k : ℕ) (x d : X) → Some x ≡ slice_get xs k → (k < length xs) × (x ≡ get_or xs k d)
got [] k x d is = absurd (true≢false (ap is_some is))
got (y ∷ ys) zero x d is = (omega arith, cc)
got (y ∷ ys) (suc k) x d is =
    let rest = got ys k x d is in
    (omega (arith, rest.0), rest.1)

-- one more item from the front
pub take-next : {X : Type 0} (xs : List X) (k : ℕ) (x : X) → Some x ≡ slice_get xs k → take (k + 1) xs ≡ take k xs ++ x ∷ []
take-next xs k x is =
    let at = got xs k x x is in
    take_more xs k x at.0 ∙ ap (λ y. take k xs ++ y ∷ []) (sym at.1)

-- if no item is at a place, all items stand before it
pub past-last : {X : Type 0} (xs : List X) (k : ℕ) → None ≡ slice_get xs k → length xs ≤ k
past-last [] k none = omega arith
past-last (x ∷ xs) zero none = absurd (true≢false (sym (ap is_some none)))
past-last (x ∷ xs) (suc k) none = omega (arith, past-last xs k none)

pub all-taken : {X : Type 0} (xs : List X) (k : ℕ) → length xs ≤ k → take k xs ≡ xs
all-taken [] zero all = refl
all-taken [] (suc k) all = refl
all-taken (x ∷ xs) zero all = absurd (omega (arith, all))
all-taken (x ∷ xs) (suc k) all = ap (λ rest. x ∷ rest) (all-taken xs k (omega (arith, all)))

take-front : (xs ys : List ℕ) → take (length xs) (xs ++ ys) ≡ xs
take-front [] ys = refl
take-front (x ∷ xs) ys = ap (λ rest. x ∷ rest) (take-front xs ys)

-- what stands between the first item and the last
pub between : (payload message : List ℕ) (first last : ℕ) → message ≡ first ∷ (payload ++ last ∷ [])
    → take (length message - 1 - 1) (drop 1 message) ≡ payload
between payload message first last is =
    let count : length (first ∷ (payload ++ last ∷ [])) - 1 - 1 ≡ length payload = omega (arith, length-append payload (last ∷ [])) in
    ap (λ m. take (length m - 1 - 1) (drop 1 m)) is
    ∙ ap (λ n. take n (payload ++ last ∷ [])) count
    ∙ take-front payload (last ∷ [])
