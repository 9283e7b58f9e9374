-- What one slot that changes does to what the streams have begun.
use Rattle.std.proofs.Common.{ℕ, ◌≡◌, ◌<◌, ◌≤◌, ◌+◌, ◌∙◌, zero, suc, ap, sym, refl, List, [], ◌∷◌, length, Option, Some, None}
use Rattle.std.proofs.Common.{is_some, Bool, true, false, cond, arith, slice_set, slice_index_or, ◌==◌, inl, inr, nat_lt}
use Rattle.std.specs.List.{count_by, position, position_or_len}
use Rattle.std.specs.Option.{option_map, is_none}
use Rattle.std.proofs.lemmas.Bool.{cases_Bool, eqb-true, eq-eqb, true≢false, lt-ltb, le-ltb, ltb-false}
use Rattle.std.proofs.lemmas.List.Sums.{sum_by-cons, sum_by-set, fails_before_first, get_or-le-sum_by}
use Rattle.std.proofs.lemmas.List.Quantifiers.{position-Some}
use Rattle.sysex_groups.specs.Table.{Begun}
use Rattle.sysex8_streams.specs.Table.{Slot8, is_of, begun_among, idle_slot, slot_with}
use Rattle.sysex8_streams.proofs.CountLaws.{one}

-- ---- how many slots pass a test

pub slots-cons : (p : Slot8 → Bool) (slot : Slot8) (slots : List Slot8) → count_by p (slot ∷ slots) ≡ one (p slot) + count_by p slots
slots-cons p slot slots = sum_by-cons (λ s. one (p s)) slot slots

pub slots-set : (p : Slot8 → Bool) (slots : List Slot8) (i : ℕ) (new : Slot8) → i < length slots
    → count_by p (slice_set slots i new) + one (p (slice_index_or slots i None)) ≡ count_by p slots + one (p new)
slots-set p slots i new within = sum_by-set (λ s. one (p s)) slots i new None within

fail-all : (p : Slot8 → Bool) (slots : List Slot8) → ((k : ℕ) → k < length slots → p (slice_index_or slots k None) ≡ false)
    → count_by p slots ≡ 0
fail-all p [] fails = refl
fail-all p (slot ∷ slots) fails =
    let rest : count_by p slots ≡ 0 = fail-all p slots (λ k below. fails (suc k) (omega arith)) in
    omega (arith, slots-cons p slot slots, ap one (fails zero (omega arith)), rest)

pub none-found : (p : Slot8 → Bool) (slots : List Slot8) → position p slots ≡ None → count_by p slots ≡ 0
none-found p slots none = elim (cases_Bool (nat_lt (position_or_len p slots) (length slots))) [
  | inl some ↦ absurd (some_none (rw some at none))
  | inr past ↦
      fail-all p slots
      (λ k below. fails_before_first p slots k None (omega (arith, ltb-false (position_or_len p slots) (length slots) past)))
]
  where
    some_none : Some (position_or_len p slots) ≡ None → ⊥
    some_none e = cc

-- a slot has a stream or is idle
some-and-none : (slots : List Slot8) → count_by is_some slots + count_by is_none slots ≡ length slots
some-and-none [] = refl
some-and-none (slot ∷ slots) = omega (arith, slots-cons is_some slot slots, slots-cons is_none slot slots, some-and-none slots, go slot)
  where
    go : (s : Slot8) → one (is_some s) + one (is_none s) ≡ 1
    go None = refl
    go (Some stream) = refl

-- a slot is idle exactly if fewer streams are begun than there are slots
pub idle-fewer : (slots : List Slot8) → is_some (idle_slot slots) ≡ nat_lt (count_by is_some slots) (length slots)
idle-fewer slots = go (idle_slot slots) refl
  where
    go : (o : Option ℕ) → idle_slot slots ≡ o → is_some o ≡ nat_lt (count_by is_some slots) (length slots)
    go None none = sym (le-ltb (count_by is_some slots) (length slots) (omega (arith, some-and-none slots, none-found is_none slots none)))
    go (Some i) found =
        let at : (i < length slots) × (is_none (slice_index_or slots i None) ≡ true)
        × ((k : ℕ) → k < i → is_none (slice_index_or slots k None) ≡ false) =
        position-Some is_none slots i None found in
        let here : one (is_none (slice_index_or slots i None)) ≤ count_by is_none slots =
        get_or-le-sum_by (λ s. one (is_none s)) slots i None at.0 in
        sym (lt-ltb (count_by is_some slots) (length slots) (omega (arith, some-and-none slots, here, ap one at.1)))

-- ---- what a stream has begun

pub begun-none : (key : ℕ) (slots : List Slot8) → count_by (is_of key) slots ≡ 0 → begun_among key slots ≡ None
begun-none key [] none = refl
begun-none key (slot ∷ slots) none =
    let counted : count_by (is_of key) (slot ∷ slots) ≡ one (is_of key slot) + count_by (is_of key) slots =
    slots-cons (is_of key) slot slots in
    elim (cases_Bool (is_of key slot)) [
      | inl own ↦ absurd (omega (arith, counted, none, ap one own))
      | inr other ↦ rw other (begun-none key slots (omega (arith, counted, none)))
    ]

-- the slot of a stream
pub begun-found : (key : ℕ) (slots : List Slot8) (i : ℕ) → i < length slots → is_of key (slice_index_or slots i None) ≡ true
    → ((k : ℕ) → k < i → is_of key (slice_index_or slots k None) ≡ false) →
    begun_among key slots ≡ option_map (λ stream. stream.begun) (slice_index_or slots i None)
begun-found key [] i within own before = absurd (omega arith)
begun-found key (slot ∷ slots) zero within own before = rw own refl
begun-found key (slot ∷ slots) (suc i) within own before =
    rw (before zero (omega arith)) (begun-found key slots i (omega arith) own (λ k below. before (suc k) (omega arith)))

pub begun-set_own : (key : ℕ) (slots : List Slot8) (i : ℕ) (new : Slot8) → i < length slots → is_of key new ≡ true
    → ((k : ℕ) → k < i → is_of key (slice_index_or slots k None) ≡ false) →
    begun_among key (slice_set slots i new) ≡ option_map (λ stream. stream.begun) new
begun-set_own key [] i new within own before = absurd (omega arith)
begun-set_own key (slot ∷ slots) zero new within own before = rw own refl
begun-set_own key (slot ∷ slots) (suc i) new within own before =
    rw (before zero (omega arith)) (begun-set_own key slots i new (omega arith) own (λ k below. before (suc k) (omega arith)))

pub begun-set_other : (key : ℕ) (slots : List Slot8) (i : ℕ) (new : Slot8) → i < length slots → is_of key new ≡ false
    → is_of key (slice_index_or slots i None) ≡ false →
    begun_among key (slice_set slots i new) ≡ begun_among key slots
begun-set_other key [] i new within new_other old_other = absurd (omega arith)
begun-set_other key (slot ∷ slots) zero new within new_other old_other = rw (new_other, old_other) refl
begun-set_other key (slot ∷ slots) (suc i) new within new_other old_other =
    ap (λ rest. cond (is_of key slot) (option_map (λ stream. stream.begun) slot) rest)
    (begun-set_other key slots i new (omega arith) new_other old_other)

-- a slot that a stream is put into is its own
pub is_of-own : (key : ℕ) (begun : Begun) → is_of key (slot_with key (Some begun)) ≡ true
is_of-own key begun = eq-eqb key key refl

-- and no other's
pub is_of-other : (own key : ℕ) (begun : Option Begun) → (own == key) ≡ false → is_of key (slot_with own begun) ≡ false
is_of-other own key None differ = refl
is_of-other own key (Some begun) differ = differ

-- the slot of one stream isn't that of another
pub is_of-one : (own key : ℕ) (slot : Slot8) → is_of own slot ≡ true → (own == key) ≡ false → is_of key slot ≡ false
is_of-one own key None is_own differ = refl
is_of-one own key (Some stream) is_own differ = ap (λ k. k == key) (eqb-true stream.key own is_own) ∙ differ

-- a slot that has a stream isn't idle
pub is_of-some : (key : ℕ) (slot : Slot8) → is_of key slot ≡ true → is_some slot ≡ true
is_of-some key None is_own = absurd (true≢false (sym is_own))
is_of-some key (Some stream) is_own = refl

-- an idle slot is no stream's
pub is_of-idle : (key : ℕ) (slot : Slot8) → is_none slot ≡ true → is_of key slot ≡ false
is_of-idle key None idle = refl
is_of-idle key (Some stream) idle = absurd (true≢false (sym idle))
