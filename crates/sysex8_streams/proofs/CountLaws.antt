-- How many elements of a list pass a test, and how many streams are begun after one more part.
use Rattle.std.proofs.Common.{ℕ, ◌≡◌, ◌≤◌, ◌+◌, ◌∙◌, ap, sym, refl, List, [], ◌∷◌, Some, is_some}
use Rattle.std.proofs.Common.{Bool, true, false, cond, not, arith, filter, ◌==◌, inl, inr, ◌⊎◌}
use Rattle.std.specs.List.{count_by}
use Rattle.std.specs.Option.{option_and_then}
use Rattle.std.proofs.lemmas.Bool.{cases_Bool, cond_both, cond-true, cond-false, eqb-true, true≢false}
use Rattle.std.proofs.lemmas.List.Sums.{sum_by-cons}
use Rattle.sysex_groups.specs.Exclusives.{Part, of_group, since_start, within}
use Rattle.sysex8_streams.specs.History.{keys, is_begun, begun_count}

-- 1 for true
abbrev pub one : Bool → ℕ
one test = cond test 1 0

abbrev is_not : ℕ → ℕ → Bool
is_not key other = not (other == key)

count-cons : {X : Type 0} (p : X → Bool) (x : X) (xs : List X) → count_by p (x ∷ xs) ≡ one (p x) + count_by p xs
count-cons p x xs = sum_by-cons (λ y. one (p y)) x xs

-- another test that differs at one key alone
count-agrees : (p q : ℕ → Bool) (key : ℕ) → ((other : ℕ) → (other == key) ≡ false → q other ≡ p other) → (xs : List ℕ)
    → count_by q (filter (is_not key) xs) ≡ count_by p (filter (is_not key) xs)
count-agrees p q key agree [] = refl
count-agrees p q key agree (x ∷ xs) =
    elim (cases_Bool (x == key)) [
      | inl same ↦ rw same (count-agrees p q key agree xs)
      | inr other ↦
          rw other (count-cons q x (filter (is_not key) xs)
          ∙ ap (λ b. one b + count_by q (filter (is_not key) xs)) (agree x other)
          ∙ ap (λ n. one (p x) + n) (count-agrees p q key agree xs)
          ∙ sym (count-cons p x (filter (is_not key) xs)))
    ]

-- the elements that pass are those at one key and the others
count-parts : (p : ℕ → Bool) (key : ℕ) (xs : List ℕ)
    → count_by p xs ≡ count_by p (filter (is_not key) xs) + cond (p key) (count_by (λ x. x == key) xs) 0
count-parts p key [] = elim (cases_Bool (p key)) [
  | inl held ↦ rw held refl
  | inr not_held ↦ rw not_held refl
]
count-parts p key (x ∷ xs) =
    let is_key : ℕ → Bool = λ y. y == key in
    let here : ℕ = count_by is_key xs in
    let others : ℕ = count_by p (filter (is_not key) xs) in
    let rest : count_by p xs ≡ others + cond (p key) here 0 = count-parts p key xs in
    let first : count_by p (x ∷ xs) ≡ one (p x) + count_by p xs = count-cons p x xs in
    let keyed : count_by is_key (x ∷ xs) ≡ one (x == key) + here = count-cons is_key x xs in
    elim (cases_Bool (x == key)) [
      | inl same ↦
          let kept : count_by p (filter (is_not key) (x ∷ xs)) ≡ others = rw same refl in
          let px : one (p x) ≡ one (p key) = ap (λ y. one (p y)) (eqb-true x key same) in
          let once : one (x == key) ≡ 1 = ap one same in
          elim (cases_Bool (p key)) [
            | inl held ↦
                omega (
                  arith,
                  first,
                  rest,
                  keyed,
                  kept,
                  once,
                  px,
                  ap one held,
                  cond-true (p key) here 0 held,
                  cond-true (p key) (count_by is_key (x ∷ xs)) 0 held,
                )
            | inr not_held ↦
                omega (
                  arith,
                  first,
                  rest,
                  keyed,
                  kept,
                  once,
                  px,
                  ap one not_held,
                  cond-false (p key) here 0 not_held,
                  cond-false (p key) (count_by is_key (x ∷ xs)) 0 not_held,
                )
          ]
      | inr other ↦
          let kept : count_by p (filter (is_not key) (x ∷ xs)) ≡ one (p x) + others = rw other (count-cons p x (filter (is_not key) xs)) in
          let never : one (x == key) ≡ 0 = ap one other in
          elim (cases_Bool (p key)) [
            | inl held ↦
                omega (
                  arith,
                  first,
                  rest,
                  keyed,
                  kept,
                  never,
                  cond-true (p key) here 0 held,
                  cond-true (p key) (count_by is_key (x ∷ xs)) 0 held,
                )
            | inr not_held ↦
                omega (
                  arith,
                  first,
                  rest,
                  keyed,
                  kept,
                  never,
                  cond-false (p key) here 0 not_held,
                  cond-false (p key) (count_by is_key (x ∷ xs)) 0 not_held,
                )
          ]
    ]

-- a key that is taken out is there no more
count-gone : (key : ℕ) (xs : List ℕ) → count_by (λ x. x == key) (filter (is_not key) xs) ≡ 0
count-gone key [] = refl
count-gone key (x ∷ xs) = elim (cases_Bool (x == key)) [
  | inl same ↦ rw same (count-gone key xs)
  | inr other ↦
      rw other (count-cons (λ y. y == key) x (filter (is_not key) xs)
      ∙ ap (λ b. one b + count_by (λ y. y == key) (filter (is_not key) xs)) other
      ∙ ap (λ n. 0 + n) (count-gone key xs))
]

-- another key stays
count-kept : (gone key : ℕ) → (gone == key) ≡ false → (xs : List ℕ)
    → count_by (λ x. x == key) (filter (is_not gone) xs) ≡ count_by (λ x. x == key) xs
count-kept gone key differ [] = refl
count-kept gone key differ (x ∷ xs) =
    let is_key : ℕ → Bool = λ y. y == key in
    let whole : count_by is_key (x ∷ xs) ≡ one (x == key) + count_by is_key xs = count-cons is_key x xs in
    let rest : count_by is_key (filter (is_not gone) xs) ≡ count_by is_key xs = count-kept gone key differ xs in
    elim (cases_Bool (x == gone)) [
      | inl same ↦
          let kept : count_by is_key (filter (is_not gone) (x ∷ xs)) ≡ count_by is_key (filter (is_not gone) xs) = rw same refl in
          let never : one (x == key) ≡ 0 = ap (λ y. one (y == key)) (eqb-true x gone same) ∙ ap one differ in
          omega (arith, whole, rest, kept, never)
      | inr other ↦
          let kept : count_by is_key (filter (is_not gone) (x ∷ xs)) ≡ one (x == key) + count_by is_key (filter (is_not gone) xs) =
          rw other (count-cons is_key x (filter (is_not gone) xs)) in
          omega (arith, whole, rest, kept)
    ]

-- what passes a filter is no more than all
pub count-filter : (p q : ℕ → Bool) (xs : List ℕ) → count_by p (filter q xs) ≤ count_by p xs
count-filter p q [] = omega arith
count-filter p q (x ∷ xs) =
    let whole : count_by p (x ∷ xs) ≡ one (p x) + count_by p xs = count-cons p x xs in
    let rest : count_by p (filter q xs) ≤ count_by p xs = count-filter p q xs in
    elim (cases_Bool (q x)) [
      | inl held ↦
          let kept : count_by p (filter q (x ∷ xs)) ≡ one (p x) + count_by p (filter q xs) = rw held (count-cons p x (filter q xs)) in
          omega (arith, whole, rest, kept)
      | inr not_held ↦
          let kept : count_by p (filter q (x ∷ xs)) ≡ count_by p (filter q xs) = rw not_held refl in
          omega (arith, whole, rest, kept)
    ]

-- a stream that has a part is once among the keys
keys-once : (key : ℕ) (past : List Part) → (of_group key past ≡ []) ⊎ (count_by (λ x. x == key) (keys past) ≡ 1)
keys-once key [] = inl refl
keys-once key (part ∷ past) =
    let is_key : ℕ → Bool = λ y. y == key in
    let whole : count_by is_key (keys (part ∷ past)) ≡ one (part.group == key) + count_by is_key (filter (is_not part.group) (keys past)) =
    count-cons is_key part.group (filter (is_not part.group) (keys past)) in
    elim (cases_Bool (part.group == key)) [
      | inl same ↦
          let gone : count_by is_key (filter (is_not part.group) (keys past)) ≡ 0 =
          ap (λ k. count_by is_key (filter (is_not k) (keys past))) (eqb-true part.group key same) ∙ count-gone key (keys past) in
          inr (omega (arith, whole, gone, ap one same))
      | inr other ↦
          let kept : count_by is_key (filter (is_not part.group) (keys past)) ≡ count_by is_key (keys past) =
          count-kept part.group key other (keys past) in
          elim (keys-once key past) [
            | inl none ↦ inl (rw other none)
            | inr once ↦ inr (omega (arith, whole, kept, once, ap one other))
          ]
    ]

-- a stream that is begun is once among the keys
begun-once : (room key : ℕ) (past : List Part) → is_begun room past key ≡ true → count_by (λ x. x == key) (keys past) ≡ 1
begun-once room key past begun = elim (keys-once key past) [
  | inl none ↦ absurd (true≢false (sym begun ∙ ap (λ own. is_some (option_and_then (within (Some room)) (since_start own))) none))
  | inr once ↦ once
]

-- one more part changes whether its own stream is begun, and not_held other
pub begun-count : (room : ℕ) (part : Part) (past : List Part)
    → ((key : ℕ) → (key == part.group) ≡ false → is_begun room (part ∷ past) key ≡ is_begun room past key) →
    begun_count room (part ∷ past) + one (is_begun room past part.group)
    ≡ begun_count room past + one (is_begun room (part ∷ past) part.group)
begun-count room part past others =
    let before : ℕ → Bool = is_begun room past in
    let after : ℕ → Bool = is_begun room (part ∷ past) in
    let key : ℕ = part.group in
    let rest : List ℕ = filter (is_not key) (keys past) in
    let whole : count_by after (key ∷ rest) ≡ one (after key) + count_by after rest = count-cons after key rest in
    let agree : count_by after rest ≡ count_by before rest = count-agrees before after key others (keys past) in
    let parts : count_by before (keys past) ≡ count_by before rest + cond (before key) (count_by (λ x. x == key) (keys past)) 0 =
    count-parts before key (keys past) in
    elim (cases_Bool (before key)) [
      | inl held ↦
          omega (
            arith,
            whole,
            agree,
            parts,
            ap one held,
            cond-true (before key) (count_by (λ x. x == key) (keys past)) 0 held,
            begun-once room key past held,
          )
      | inr not_held ↦
          omega (arith, whole, agree, parts, ap one not_held, cond-false (before key) (count_by (λ x. x == key) (keys past)) 0 not_held)
    ]

-- if all parts are of one stream and it isn't begun, none is
pub none-begun : (p : ℕ → Bool) (key : ℕ) (past : List Part) → p key ≡ false → count_by p (keys (of_group key past)) ≡ 0
none-begun p key [] not_held = refl
none-begun p key (part ∷ past) not_held =
    let P : List Part → Type 0 = λ own. count_by p (keys own) ≡ 0 in
    let own : List Part = of_group key past in
    let rest : count_by p (keys own) ≡ 0 = none-begun p key past not_held in
    cond_both (part.group == key) (part ∷ own) own P
    (λ same.
    let whole : count_by p (part.group ∷ filter (is_not part.group) (keys own))
    ≡ one (p part.group) + count_by p (filter (is_not part.group) (keys own)) =
    count-cons p part.group (filter (is_not part.group) (keys own)) in
    let fewer : count_by p (filter (is_not part.group) (keys own)) ≤ count_by p (keys own) =
    count-filter p (is_not part.group) (keys own) in
    omega (arith, whole, fewer, rest, ap (λ k. one (p k)) (eqb-true part.group key same), ap one not_held))
    (λ other. rest)
