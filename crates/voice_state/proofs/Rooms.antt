-- What an edit of one place of a list leaves of all places, and which list is full.
use Rattle.std.proofs.Common.{◌≡◌, ◌∙◌, ℕ, ◌<◌, ◌+◌, arith, List, length, get_or, set, sym, subst, ⊎_elim, Result, Ok, Err}
use Rattle.std.proofs.lemmas.Bool.{cases_eq}
use Rattle.std.proofs.lemmas.List.{get_or_default, get_or-set_other, get_or-set_same}
use Rattle.voice_state.specs.declared.not_kept.NotKept.{NotKept}
use Rattle.voice_state.specs.declared.not_kept.NotKept.TheVariants as not_kept
use Rattle.voice_state.specs.Rooms.{IsFullWhere}

-- what an edit does to one place, each place keeps
module _ {A : Type 0} (R : A → A → Type 0) (same : (x : A) → R x x) (xs : List A) (i : ℕ) (found new : A) (within : i < length xs) where
  pub related : found ≡ get_or xs i found → R found new → (j : ℕ) (other : A) → R (get_or xs j other) (get_or (set xs i new) j other)
  related is step j other =
      ⊎_elim
      (λ here. subst (λ k. R (get_or xs k other) (get_or (set xs i new) k other)) here
      (subst (λ x. R x (get_or (set xs i new) i other)) (is ∙ get_or_default xs i found other within)
      (subst (λ x. R found x) (sym (get_or-set_same xs i new other within)) step)))
      (λ there. subst (λ x. R (get_or xs j other) x) (sym (get_or-set_other xs i j new other (λ same. there (sym same)))) (same (get_or xs j other)))
      (cases_eq i j)

pub same_full : {B : Type 0} {P Q : Type 0} (result : Result B NotKept) → (P → Q) → (Q → P) → IsFullWhere result P → IsFullWhere result Q
same_full (Ok value) to from full = λ q. full (from q)
same_full (Err not_kept.Full) to from full = to full
same_full (Err not_kept.NoMemory) to from full = λ q. full (from q)

-- the list is full that was found at a place
pub full_at : {A B : Type 0} (F : A → Type 0) (xs : List A) (i at : ℕ) (found : A) (result : Result B NotKept) → i < length xs → i ≡ at
    → found ≡ get_or xs i found → IsFullWhere result (F found) → IsFullWhere result ((other : A) → F (get_or xs at other))
full_at F xs i at found result within same is full =
    subst (λ k. IsFullWhere result ((other : _) → F (get_or xs k other))) same
    (same_full result
    (λ here other. subst F (is ∙ get_or_default xs i found other within) here)
    (λ all. subst F (sym is) (all found))
    full)

-- an edit of the next place, after those before it
pub each_set : {A : Type 0} (P : A → Type 0) (xs : List A) (i : ℕ) (new : A) → i < length xs
    → ((j : ℕ) (other : A) → j < i → P (get_or xs j other)) → P new
    → (j : ℕ) (other : A) → j < i + 1 → P (get_or (set xs i new) j other)
each_set P xs i new within before now j other below =
    ⊎_elim
    (λ here. subst (λ k. P (get_or (set xs i new) k other)) here (subst P (sym (get_or-set_same xs i new other within)) now))
    (λ there.
    subst P (sym (get_or-set_other xs i j new other (λ same. there (sym same)))) (before j other (omega (arith, below, there))))
    (cases_eq i j)
