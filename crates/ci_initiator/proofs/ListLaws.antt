-- Items of lists.
use Rattle.std.proofs.Common.{arith, ◌≡◌, ◌⊎◌, inl, inr, ◌<◌, ◌≤◌, ◌+◌, ◌∙◌, ap, sym, refl, ℕ, zero, suc, Bool}
use Rattle.std.proofs.Common.{false, ◌||◌, List, [], ◌∷◌, ◌++◌, length, map, take, drop, slice_set, slice_get}
use Rattle.std.proofs.Common.{slice_index, slice_index_or, Some, None, unwrap_or, ◌*◌, ◌/◌, not, cond, nat_lt}
use Rattle.std.specs.List.{position, position_or_len}
use Rattle.ci_messages.specs.Positions.{part_at}
use Rattle.std.proofs.lemmas.List.{length-drop}
use Rattle.std.specs.Str.{bytes_eq}
use Rattle.ci_initiator.specs.Incoming.{lists}

-- ---- items that are changed one by one

module _ {X : Type 0} (change : X → X) where
  -- the first k are changed
  abbrev pub first-changed : ℕ → List X → List X
  first-changed k xs = map change (take k xs) ++ drop k xs

  -- the item that is next to be changed
  pub next-is : (xs : List X) (k : ℕ) (d : X) → k < length xs → slice_index_or (first-changed k xs) k d ≡ slice_index_or xs k d
  next-is [] k d within = absurd (omega (arith, within))
  next-is (x ∷ xs) zero d within = refl
  next-is (x ∷ xs) (suc k) d within = next-is xs k d (omega (arith, within))

  pub one-more : (xs : List X) (k : ℕ) (d : X) → k < length xs
      → slice_set (first-changed k xs) k (change (slice_index_or xs k d)) ≡ first-changed (suc k) xs
  one-more [] k d within = absurd (omega (arith, within))
  one-more (x ∷ xs) zero d within = refl
  one-more (x ∷ xs) (suc k) d within = ap (λ rest. change x ∷ rest) (one-more xs k d (omega (arith, within)))

  pub all-changed : (xs : List X) → first-changed (length xs) xs ≡ map change xs
  all-changed [] = refl
  all-changed (x ∷ xs) = ap (λ rest. change x ∷ rest) (all-changed xs)

-- ---- items that are there

abbrev pub IsIn : {X : Type 0} → X → List X → Type 0
IsIn x [] = ⊥
IsIn x (y ∷ ys) = (x ≡ y) ⊎ IsIn x ys

pub in-left : {X : Type 0} (x : X) (xs ys : List X) → IsIn x xs → IsIn x (xs ++ ys)
in-left x [] ys is = elim is [ ]
in-left x (y ∷ xs) ys (inl same) = inl same
in-left x (y ∷ xs) ys (inr later) = inr (in-left x xs ys later)

pub in-either : {X : Type 0} (x : X) (xs ys : List X) → IsIn x (xs ++ ys) → IsIn x xs ⊎ IsIn x ys
in-either x [] ys is = inr is
in-either x (y ∷ xs) ys (inl same) = inl (inl same)
in-either x (y ∷ xs) ys (inr later) = by (in-either x xs ys later)
  where
    by : IsIn x xs ⊎ IsIn x ys → IsIn x (y ∷ xs) ⊎ IsIn x ys
    by (inl earlier) = inl (inr earlier)
    by (inr latest) = inr latest

pub place-of : {X : Type 0} (x : X) (xs : List X) → IsIn x xs → (n : ℕ) × (slice_get xs n ≡ Some x)
place-of x [] is = elim is [ ]
place-of x (y ∷ xs) (inl same) = (0, ap Some (sym same))
place-of x (y ∷ xs) (inr later) = let rest = place-of x xs later in (suc rest.0, rest.1)

pub got-in : {X : Type 0} (x : X) (xs : List X) (n : ℕ) → slice_get xs n ≡ Some x → IsIn x xs
got-in x [] n is = let e : None ≡ Some x = is in cc
got-in x (y ∷ ys) zero is = inl (sym (ap (λ o. unwrap_or o x) is))
got-in x (y ∷ ys) (suc n) is = inr (got-in x ys n is)

-- ---- bytes by their places

pub take-front : (xs ys : List ℕ) → take (length xs) (xs ++ ys) ≡ xs
take-front [] ys = refl
take-front (x ∷ xs) ys = ap (λ rest. x ∷ rest) (take-front xs ys)

pub drop-front : (xs ys : List ℕ) → drop (length xs) (xs ++ ys) ≡ ys
drop-front [] ys = refl
drop-front (x ∷ xs) ys = drop-front xs ys

pub byte-behind : (xs ys : List ℕ) (k : ℕ) → slice_index (xs ++ ys) (length xs + k) ≡ slice_index ys k
byte-behind [] ys k = let same : 0 + k ≡ k = omega arith in ap (slice_index ys) same
byte-behind (x ∷ xs) ys k =
    let one : length (x ∷ xs) + k ≡ suc (length xs + k) = omega arith in
    ap (slice_index (x ∷ (xs ++ ys))) one ∙ byte-behind xs ys k

-- ---- lists of ids

pub lists-next : (id xs : List ℕ) → 5 ≤ length xs → lists id xs ≡ (bytes_eq (take 5 xs) id || lists id (drop 5 xs))
lists-next id [] few = absurd (omega (arith, few))
lists-next id (a ∷ []) few = absurd (omega (arith, few))
lists-next id (a ∷ b ∷ []) few = absurd (omega (arith, few))
lists-next id (a ∷ b ∷ c ∷ []) few = absurd (omega (arith, few))
lists-next id (a ∷ b ∷ c ∷ d ∷ []) few = absurd (omega (arith, few))
lists-next id (a ∷ b ∷ c ∷ d ∷ e ∷ rest) few = refl

pub lists-short : (id xs : List ℕ) → length xs < 5 → lists id xs ≡ false
lists-short id [] few = refl
lists-short id (a ∷ []) few = refl
lists-short id (a ∷ b ∷ []) few = refl
lists-short id (a ∷ b ∷ c ∷ []) few = refl
lists-short id (a ∷ b ∷ c ∷ d ∷ []) few = refl
lists-short id (a ∷ b ∷ c ∷ d ∷ e ∷ rest) few = absurd (omega (arith, few))

pub lists-append : (id xs ys : List ℕ) → length xs ≡ 5 → lists id (xs ++ ys) ≡ (bytes_eq xs id || lists id ys)
lists-append id (a ∷ b ∷ c ∷ d ∷ e ∷ []) ys five = refl
lists-append id [] ys five = absurd (omega (arith, five))
lists-append id (a ∷ []) ys five = absurd (omega (arith, five))
lists-append id (a ∷ b ∷ []) ys five = absurd (omega (arith, five))
lists-append id (a ∷ b ∷ c ∷ []) ys five = absurd (omega (arith, five))
lists-append id (a ∷ b ∷ c ∷ d ∷ []) ys five = absurd (omega (arith, five))
lists-append id (a ∷ b ∷ c ∷ d ∷ e ∷ f ∷ rest) ys five = absurd (omega (arith, five))

drop-nil : (m : ℕ) (xs : List ℕ) → xs ≡ [] → drop m xs ≡ []
drop-nil zero xs is = is
drop-nil (suc m) xs is = ap (drop (suc m)) is

drop-more : (n : ℕ) (xs : List ℕ) → drop 5 (drop n xs) ≡ drop (n + 5) xs
drop-more zero xs = let same : 5 ≡ 0 + 5 = omega arith in ap (λ m. drop m xs) same
drop-more (suc n) [] = sym (drop-nil (suc n + 5) [] refl)
drop-more (suc n) (x ∷ xs) =
    let one : suc n + 5 ≡ suc (n + 5) = omega arith in
    drop-more n xs ∙ ap (λ m. drop m (x ∷ xs)) (sym one)

-- the id at place k, and those after it
pub lists-at : (id ids : List ℕ) (k : ℕ) → k < length ids / 5
    → lists id (drop (5 * k) ids) ≡ (bytes_eq (part_at ids (5 * k) 5) id || lists id (drop (5 * (k + 1)) ids))
lists-at id ids k within =
    let enough : 5 ≤ length (drop (5 * k) ids) = omega (arith, within, length-drop (5 * k) ids) in
    let next : 5 * k + 5 ≡ 5 * (k + 1) = omega arith in
    lists-next id (drop (5 * k) ids) enough
    ∙ ap (λ rest. bytes_eq (part_at ids (5 * k) 5) id || lists id rest) (drop-more (5 * k) ids ∙ ap (λ n. drop n ids) next)

-- ---- a place in a list that is mapped

place-map : {X Y : Type 0} (p : Y → Bool) (f : X → Y) (xs : List X) → position_or_len p (map f xs) ≡ position_or_len (λ x. p (f x)) xs
place-map p f [] = refl
place-map p f (x ∷ xs) = ap (λ rest. cond (not (p (f x))) (1 + rest) 0) (place-map p f xs)

length-map : {X Y : Type 0} (f : X → Y) (xs : List X) → length (map f xs) ≡ length xs
length-map f [] = refl
length-map f (x ∷ xs) = ap suc (length-map f xs)

pub position-map : {X Y : Type 0} (p : Y → Bool) (f : X → Y) (xs : List X) → position (λ x. p (f x)) xs ≡ position p (map f xs)
position-map p f xs = sym (λ j. cond (nat_lt (place-map p f xs j) (length-map f xs j)) (Some (place-map p f xs j)) None)
