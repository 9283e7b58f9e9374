-- What a search finds among entries in order, and what an edit at that place does.
use Rattle.std.proofs.Common.{◌≡◌, ◌≢◌, ℕ, zero, suc, ◌+◌, ◌-◌, ◌<◌, ◌≤◌, ◌==◌, Bool, true, false, cond, List, [], ◌∷◌, length, get_or, set, Some, None}
use Rattle.std.proofs.Common.{Result, Ok, Err, IfOk, IfErr, refl, sym, ap, subst, arith, take, drop, All}
use Rattle.std.specs.List.{insert}
use Rattle.std.specs.List.Sorted.{IsSearchInRange, IsBinarySearchResult, IsNonDecreasingBy, IsStrictlySortedBy}
use Rattle.std.specs.Map.{keys_of}
use Rattle.std.specs.Ordering.{nat_cmp, ordering_index}
use Rattle.std.proofs.lemmas.Cmp.{ranked}
use Rattle.std.proofs.lemmas.List.{get_or-map, length-map}
use Rattle.std.proofs.lemmas.List.Elements.{All-append, All-cons, All-drop, All-take}
use Rattle.std.proofs.lemmas.List.Sorted.{IsNonDecreasingBy-from_default}
use Rattle.std.proofs.lemmas.List.Edits.{length-insert, get_or-insert_below, get_or-insert_at, get_or-insert_above}
use Rattle.std.proofs.lemmas.Map.Keys.{sorted_from_strictly_increasing}
use Rattle.std.proofs.lemmas.Bool.Decides.{nat_tests}
use Rattle.std.proofs.lemmas.Grind.{common_steps}
use Rattle.midi_meaning.specs.State.{put}
use Rattle.voice_state.specs.declared.param_map.ParamState.{ParamState}
use Rattle.voice_state.specs.Params.{no_entry, number_at, state_at, IsAt, IsGapFor, IsInOrder}

abbrev Entries : Type 0
Entries = List (ℕ × ParamState)

-- no entry before a place has the number
abbrev NoneBefore : Entries → ℕ → ℕ → Type 0
NoneBefore entries number place = (j : ℕ) → j < place → number_at entries j ≢ number

-- the state of a number is new, and of any other one as before
abbrev Puts : Entries → Entries → ℕ → ParamState → Type 0
Puts old new number state = (other : ℕ) → state_at new other ≡ put ◌==◌ (state_at old) number state other

abbrev AreBelow : ℕ × ParamState → Type 0
AreBelow entry = entry.0 < 16384

none_in_tail : (entry : ℕ × ParamState) (entries : Entries) (number place : ℕ) → NoneBefore (entry ∷ entries) number (suc place)
    → NoneBefore entries number place
none_in_tail entry entries number place none j before = none (suc j) (omega arith)

at_in_tail : (entry : ℕ × ParamState) (entries : Entries) (number place : ℕ) → IsAt (entry ∷ entries) number (suc place)
    → IsAt entries number place
at_in_tail entry entries number place is_at = record { in_range = omega (arith, is_at.in_range); has_number = is_at.has_number }

absent : (entries : Entries) (number : ℕ) → NoneBefore entries number (length entries) → state_at entries number ≡ None
absent [] number none = refl
absent (entry ∷ entries) number none =
    grind (arith, nat_tests, none 0 (omega arith), absent entries number (none_in_tail entry entries number _ none))

present : (entries : Entries) (number place : ℕ) → IsAt entries number place → NoneBefore entries number place
    → state_at entries number ≡ Some (get_or entries place no_entry).1
present [] number place is_at none = absurd (omega (arith, is_at.in_range))
present (entry ∷ entries) number zero is_at none = grind (arith, nat_tests, is_at.has_number)
present (entry ∷ entries) number (suc place) is_at none =
    grind (
      arith,
      nat_tests,
      none 0 (omega arith),
      present entries number place (at_in_tail entry entries number place is_at) (none_in_tail entry entries number place none),
    )

set_puts : (entries : Entries) (number : ℕ) (state : ParamState) (place : ℕ) → IsAt entries number place → NoneBefore entries number place
    → Puts entries (set entries place (number, state)) number state
set_puts [] number state place is_at none other = absurd (omega (arith, is_at.in_range))
set_puts (entry ∷ entries) number state zero is_at none other = grind (arith, nat_tests, is_at.has_number)
set_puts (entry ∷ entries) number state (suc place) is_at none other =
    grind (
      arith,
      nat_tests,
      none 0 (omega arith),
      set_puts entries number state place (at_in_tail entry entries number place is_at) (none_in_tail entry entries number place none) other,
    )

insert_puts : (entries : Entries) (number : ℕ) (state : ParamState) (place : ℕ) → NoneBefore entries number place
    → Puts entries (insert entries place (number, state)) number state
insert_puts entries number state zero none other = grind (arith, nat_tests)
insert_puts [] number state (suc place) none other = grind (arith, nat_tests)
insert_puts (entry ∷ entries) number state (suc place) none other =
    grind (arith, nat_tests, none 0 (omega arith), insert_puts entries number state place (none_in_tail entry entries number place none) other)

-- ---- entries in order

module _ (entries : Entries) (sorted : IsInOrder entries) where
  comparisons_rise : (number : ℕ) → IsNonDecreasingBy (λ entry. ordering_index (nat_cmp entry.0 number)) entries
  comparisons_rise number =
      IsNonDecreasingBy-from_default (λ entry. ordering_index (nat_cmp entry.0 number)) entries no_entry (λ i j before in_range.
      let rise : number_at entries i ≤ number_at entries j = grind (arith, sorted i j, λ (same : i ≡ j). ap (number_at entries) same) in
      grind (arith, nat_tests))

  pub searched : (number : ℕ) (result : Result ℕ ℕ) → IsSearchInRange result (length entries)
      → IsBinarySearchResult (λ entry. nat_cmp entry.0 number) entries result
      → record { found : IfOk result (IsAt entries number); absent : IfErr result (IsGapFor entries number) }
  searched number (Ok place) in_range equal = record {
    found = record { in_range = in_range; has_number = ranked _ number _ (sym (equal no_entry)) };
    absent = tt;
  }
  searched number (Err place) in_range parted = record {
    found = tt;
    absent = record {
      in_range = in_range;
      lesser_before = λ j before. ranked _ number _ (sym ((parted (comparisons_rise number)).0 j no_entry (omega arith) before));
      greater_after = λ j after within. ranked _ number _ (sym ((parted (comparisons_rise number)).1 j no_entry after within));
    };
  }

  pub strictly_sorted : IsStrictlySortedBy nat_cmp (keys_of entries)
  strictly_sorted =
      sorted_from_strictly_increasing (keys_of entries) (λ k within.
      let number : ℕ × ParamState → ℕ = λ entry. entry.0 in
      let size : length (keys_of entries) ≡ length entries = length-map entries number in
      let next : k + 1 < length entries = omega (arith, size, within) in
      let here : get_or (keys_of entries) k 0 ≡ number_at entries k = get_or-map number entries k no_entry 0 (omega (arith, next)) in
      let there : get_or (keys_of entries) (k + 1) 0 ≡ number_at entries (k + 1) = get_or-map number entries (k + 1) no_entry 0 next in
      omega (arith, here, there, sorted k (k + 1) (omega arith) next))

module _ (entries : Entries) (sorted : IsInOrder entries) (number place : ℕ) (is_at : IsAt entries number place) where
  none_before : NoneBefore entries number place
  none_before j before same = omega (arith, sorted j place before is_at.in_range, is_at.has_number)

  pub state_found : state_at entries number ≡ Some (get_or entries place no_entry).1
  state_found = present entries number place is_at none_before

  pub put_at : (state : ParamState) → Puts entries (set entries place (number, state)) number state
  put_at state = set_puts entries number state place is_at none_before

  pub order_kept : (state : ParamState) → IsInOrder (set entries place (number, state))
  order_kept state i j before in_range =
      grind (arith, common_steps, sorted i j, sorted i place, sorted place j, is_at.in_range, is_at.has_number)

module _ (entries : Entries) (number place : ℕ) (gap : IsGapFor entries number place) where
  pub state_missing : state_at entries number ≡ None
  state_missing = absent entries number (λ j within same. grind (arith, gap.lesser_before j, gap.greater_after j))

  pub put_in : (state : ParamState) → Puts entries (insert entries place (number, state)) number state
  put_in state = insert_puts entries number state place (λ j before same. omega (arith, gap.lesser_before j before))

  -- each new number is an old one below the gap, this one in it, or an old one moved up by one
  pub order_with : (state : ParamState) → IsInOrder entries → IsInOrder (insert entries place (number, state))
  order_with state sorted i j before in_range =
      let entry : ℕ × ParamState = (number, state) in
      let new = insert entries place entry in
      let number_of = λ (x : ℕ × ParamState). x.0 in
      let size = length-insert entries place entry gap.in_range in
      let below : (i : ℕ) → i < place → number_at new i ≡ number_at entries i =
      λ i is_below. ap number_of (get_or-insert_below entries place entry no_entry i is_below gap.in_range) in
      let here : (i : ℕ) → i ≡ place → number_at new i ≡ number =
      λ i is_here. rw is_here (ap number_of (get_or-insert_at entries place entry no_entry gap.in_range)) in
      let above : (i : ℕ) → place < i → number_at new i ≡ number_at entries (i - 1) =
      λ i is_above. subst (λ q. number_at new q ≡ number_at entries (i - 1)) {x = i - 1 + 1} (omega arith)
      (ap number_of (get_or-insert_above entries place entry no_entry (i - 1) (omega arith) gap.in_range)) in
      grind (
        arith,
        below i,
        here i,
        above i,
        below j,
        here j,
        above j,
        sorted i j,
        sorted i (j - 1),
        sorted (i - 1) (j - 1),
        gap.lesser_before i,
        gap.greater_after (j - 1),
      )

  below_with : (state : ParamState) → number < 16384 → All AreBelow entries → All AreBelow (insert entries place (number, state))
  below_with state is_below all =
      All-append AreBelow (take place entries) ((number, state) ∷ drop place entries) (All-take AreBelow place entries all)
      (All-cons AreBelow (number, state) (drop place entries) is_below (All-drop AreBelow place entries all))

  -- if it is added, and if it isn't
  pub added_or_not : (state : ParamState) (is_added : Bool) (new : Entries) → new ≡ cond is_added (insert entries place (number, state)) entries
      → number < 16384 → IsInOrder entries → All AreBelow entries → IsInOrder new × All AreBelow new
  added_or_not state true new is is_below sorted all =
      subst (λ es. IsInOrder es × All AreBelow es) (sym is) (order_with state sorted, below_with state is_below all)
  added_or_not state false new is is_below sorted all = subst (λ es. IsInOrder es × All AreBelow es) (sym is) (sorted, all)
