-- What is put for each item of a list, one after the other.
use Rattle.std.proofs.Common.{◌≡◌, ◌<◌, ℕ, List, [], ◌∷◌, ◌++◌, ◌+◌, length, take, drop, None, Some, zero, suc, refl, ap, sym, ◌∙◌, arith}
use Rattle.std.specs.Prelude.{unwrap_or, slice_get}
use native.Mathlib.Numerals.{add-one}
use Rattle.std.proofs.lemmas.List.{append_assoc, append-nil}
use Rattle.pass_loop.specs.Each.{for_each}
use Rattle.pass_loop.specs.Put.{Put}

pub each-then : {X : Type 0} (put : ℕ → X → List Put) (number : ℕ) (xs ys : List X)
    → for_each put number (xs ++ ys) ≡ for_each put number xs ++ for_each put (number + length xs) ys
each-then put number [] ys = ap (λ n. for_each put n ys) (omega arith)
each-then put number (x ∷ xs) ys =
    ap (λ ps. put number x ++ ps) (each-then put (number + 1) xs ys)
    ∙ ap (λ n. put number x ++ (for_each put (number + 1) xs ++ for_each put n ys)) {x = (number + 1) + length xs}
    {y = number + length (x ∷ xs)} (omega arith)
    ∙ sym (append_assoc (put number x) (for_each put (number + 1) xs) (for_each put (number + length (x ∷ xs)) ys))

-- the place of an item in a list
pub record At {X : Type 0} (n : ℕ) (xs : List X) (x : X) : Type 0 where
  pub all : xs ≡ take n xs ++ x ∷ drop (suc n) xs
  pub more : take (suc n) xs ≡ take n xs ++ x ∷ []
  pub count : length (take n xs) ≡ n

at_place : {X : Type 0} (n : ℕ) (xs : List X) (x : X) → slice_get xs n ≡ Some x → At n xs x
at_place n [] x e = absurd (let h : None ≡ Some x = e in cc)
at_place zero (y ∷ ys) x e =
    let same : y ≡ x = ap (λ o. unwrap_or o x) e in
    record { all = ap (λ z. z ∷ ys) same; more = ap (λ z. z ∷ []) same; count = refl }
at_place (suc n) (y ∷ ys) x e =
    let rest = at_place n ys x e in
    record { all = ap (λ zs. y ∷ zs) rest.all; more = ap (λ zs. y ∷ zs) rest.more; count = ap suc rest.count }

module _ {X : Type 0} (put : ℕ → X → List Put) (xs : List X) (n : ℕ) (x : X) (at : slice_get xs n ≡ Some x) where
  pub next_each : for_each put 0 (take (n + 1) xs) ≡ for_each put 0 (take n xs) ++ put n x
  next_each =
      let is = at_place n xs x at in
      ap (λ k. for_each put 0 (take k xs)) (add-one n)
      ∙ ap (for_each put 0) is.more
      ∙ each-then put 0 (take n xs) (x ∷ [])
      ∙ ap (λ k. for_each put 0 (take n xs) ++ for_each put k (x ∷ [])) {x = 0 + length (take n xs)} {y = n} (omega (arith, is.count))
      ∙ ap (λ ps. for_each put 0 (take n xs) ++ ps) (append-nil (put n x))

  pub all_each : for_each put 0 xs ≡ for_each put 0 (take n xs) ++ (put n x ++ for_each put (n + 1) (drop (suc n) xs))
  all_each =
      let is = at_place n xs x at in
      ap (for_each put 0) is.all
      ∙ each-then put 0 (take n xs) (x ∷ drop (suc n) xs)
      ∙ ap (λ k. for_each put 0 (take n xs) ++ for_each put k (x ∷ drop (suc n) xs)) {x = 0 + length (take n xs)} {y = n}
      (omega (arith, is.count))

-- what is before the end of a list is there
pub not_past : {X : Type 0} (n : ℕ) (xs : List X) → slice_get xs n ≡ None → n < length xs → ⊥
not_past n [] e below = omega (arith, below)
not_past zero (x ∷ xs) e below = let h : Some x ≡ None = e in cc
not_past (suc n) (x ∷ xs) e below = not_past n xs e (omega (arith, below))
