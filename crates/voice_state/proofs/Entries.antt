-- What is kept of parameters: the numbers of entries, and what is told of them.
use Rattle.std.proofs.Common.{◌≡◌, ◌∙◌, ap, sym, refl, arith, ℕ, zero, suc, ◌+◌, ◌<◌, ◌≤◌, ⊎_elim}
use Rattle.std.proofs.Common.{Bool, true, false, cond, List, [], ◌∷◌, ◌++◌, map, Option, Some, None, Less, All}
use Rattle.std.specs.List.{AllByRecursion, flat_map, range_with_len}
use Rattle.std.specs.List.Sorted.{IsStrictlySortedBy}
use Rattle.std.specs.Option.{option_map, option_to_list}
use Rattle.std.specs.Ordering.{nat_cmp}
use Rattle.std.specs.Map.{keys_of}
use Rattle.std.proofs.lemmas.Bool.{cases_eq}
use Rattle.std.proofs.lemmas.Bool.Decides.{nat_tests}
use Rattle.std.proofs.lemmas.List.Elements.{All-map, recursion_from_All}
use Rattle.voice_messages.specs.declared.voice2.ParamKind.{ParamKind}
use Rattle.voice_messages.specs.declared.voice2.Param.{Param}
use Rattle.midi_meaning.specs.State.{Channel}
use Rattle.voice_state.specs.declared.fact.Fact.{Fact}
use Rattle.voice_state.specs.declared.param_map.ParamState.{ParamState}
use Rattle.voice_state.specs.Facts.{first, is_told, param_fact, param_facts, params_in_order}
use Rattle.voice_state.specs.Params.{entry_fact, number_of, param_of, param_state, state_at, IsInOrder, IsOf}
use Rattle.voice_state.proofs.KeptParams.{param_again}
use Rattle.voice_state.proofs.Places.{strictly_sorted}
use Rattle.voice_state.proofs.ToldFacts.{by_rows, each_below}

-- ---- what an entry has at a number

found : (number : ℕ) (entry : ℕ × ParamState) (entries : List (ℕ × ParamState)) → number ≡ entry.0
    → state_at (entry ∷ entries) number ≡ Some entry.1
found number entry entries same = grind (arith, nat_tests, same)

passed : (number : ℕ) (entry : ℕ × ParamState) (entries : List (ℕ × ParamState)) → (number ≡ entry.0 → ⊥)
    → state_at (entry ∷ entries) number ≡ state_at entries number
passed number entry entries other = grind (arith, nat_tests, other)

missing : (number : ℕ) (entries : List (ℕ × ParamState)) → AllByRecursion (λ key. number < key) (keys_of entries)
    → state_at entries number ≡ None
missing number [] above = refl
missing number (entry ∷ entries) above = passed number entry entries (λ same. omega (arith, above.0)) ∙ missing number entries above.1

less_than : (x y : ℕ) → nat_cmp x y ≡ Less → x < y
less_than x y less = grind (arith, nat_tests)

weaker : (P Q : ℕ → Type 0) → ((key : ℕ) → P key → Q key) → (keys : List ℕ) → AllByRecursion P keys → AllByRecursion Q keys
weaker P Q more [] all = all
weaker P Q more (key ∷ keys) all = (more key all.0, weaker P Q more keys all.1)

both_hold : (P Q : ℕ → Type 0) → (keys : List ℕ) → AllByRecursion P keys → AllByRecursion Q keys
    → AllByRecursion (λ key. P key × Q key) keys
both_hold P Q [] these those = these
both_hold P Q (key ∷ keys) these those = ((these.0, those.0), both_hold P Q keys these.1 those.1)

-- ---- entries in order

each_from : {A : Type 0} (f g : ℕ → List A) (least count : ℕ) → ((i : ℕ) → least ≤ i → f i ≡ g i)
    → flat_map f (range_with_len least count) ≡ flat_map g (range_with_len least count)
each_from f g least zero same = refl
each_from f g least (suc count) same =
    ap (λ ys. ys ++ flat_map f (range_with_len (least + 1) count)) (same least (omega arith))
    ∙ ap (λ ys. g least ++ ys) (each_from f g (least + 1) count (λ i from. same i (omega (arith, from))))

abbrev told_at : (ℕ × ParamState → Fact) → List (ℕ × ParamState) → ℕ → List Fact
told_at fact_of entries number = option_to_list (option_map (λ state. fact_of (number, state)) (state_at entries number))

-- the first entry is at the least number
at_least : (fact_of : ℕ × ParamState → Fact) (least count : ℕ) (entry : ℕ × ParamState) (entries : List (ℕ × ParamState))
    → least ≡ entry.0 →
    flat_map (told_at fact_of entries) (range_with_len (least + 1) count) ≡ map fact_of entries →
    flat_map (told_at fact_of (entry ∷ entries)) (range_with_len least (suc count)) ≡ map fact_of (entry ∷ entries)
at_least fact_of least count entry entries same rest =
    let one : Option ParamState → List Fact = λ told. option_to_list (option_map (λ state. fact_of (least, state)) told) in
    let head : told_at fact_of (entry ∷ entries) least ≡ fact_of entry ∷ [] =
    ap one (found least entry entries same) ∙ ap (λ number. fact_of (number, entry.1) ∷ []) same in
    let tail : flat_map (told_at fact_of (entry ∷ entries)) (range_with_len (least + 1) count)
    ≡ flat_map (told_at fact_of entries) (range_with_len (least + 1) count) =
    each_from (told_at fact_of (entry ∷ entries)) (told_at fact_of entries) (least + 1) count
    (λ i from. ap (λ told. option_to_list (option_map (λ state. fact_of (i, state)) told))
    (passed i entry entries (λ is. omega (arith, from, is, same)))) in
    ap (λ ys. ys ++ flat_map (told_at fact_of (entry ∷ entries)) (range_with_len (least + 1) count)) head
    ∙ ap (λ ys. fact_of entry ∷ ys) (tail ∙ rest)

-- no entry is at the least number
above_least : (fact_of : ℕ × ParamState → Fact) (least count : ℕ) (entries : List (ℕ × ParamState))
    → AllByRecursion (λ key. least < key) (keys_of entries) →
    flat_map (told_at fact_of entries) (range_with_len (least + 1) count) ≡ map fact_of entries →
    flat_map (told_at fact_of entries) (range_with_len least (suc count)) ≡ map fact_of entries
above_least fact_of least count entries above rest =
    ap (λ told. option_to_list (option_map (λ state. fact_of (least, state)) told)
    ++ flat_map (told_at fact_of entries) (range_with_len (least + 1) count))
    (missing least entries above)
    ∙ rest

keys_above : (entry : ℕ × ParamState) (entries : List (ℕ × ParamState))
    → AllByRecursion (λ key. nat_cmp entry.0 key ≡ Less) (keys_of entries) → AllByRecursion (λ key. entry.0 < key) (keys_of entries)
keys_above entry entries less =
    weaker (λ key. nat_cmp entry.0 key ≡ Less) (λ key. entry.0 < key) (λ key is. less_than entry.0 key is) (keys_of entries) less

narrower : (least count : ℕ) (keys : List ℕ) → AllByRecursion (λ key. least < key) keys
    → AllByRecursion (λ key. (least ≤ key) × (key < least + suc count)) keys →
    AllByRecursion (λ key. (least + 1 ≤ key) × (key < least + 1 + count)) keys
narrower least count keys above within =
    weaker (λ key. (least < key) × ((least ≤ key) × (key < least + suc count))) (λ key. (least + 1 ≤ key) × (key < least + 1 + count))
    (λ key is. (omega (arith, is.0), omega (arith, is.1.1))) keys
    (both_hold (λ key. least < key) (λ key. (least ≤ key) × (key < least + suc count)) keys above within)

told_from : (fact_of : ℕ × ParamState → Fact) (least count : ℕ) (entries : List (ℕ × ParamState))
    → IsStrictlySortedBy nat_cmp (keys_of entries) →
    AllByRecursion (λ key. (least ≤ key) × (key < least + count)) (keys_of entries)
    → flat_map (told_at fact_of entries) (range_with_len least count) ≡ map fact_of entries
unfolding IsStrictlySortedBy
told_from fact_of least zero [] sorted within = refl
told_from fact_of least zero (entry ∷ entries) sorted within = absurd (omega (arith, within.0.0, within.0.1))
told_from fact_of least (suc count) [] sorted within = told_from fact_of (least + 1) count [] sorted within
told_from fact_of least (suc count) (entry ∷ entries) sorted within =
    let above = keys_above entry entries sorted.0 in
    ⊎_elim
    (λ same. at_least fact_of least count entry entries same
    (told_from fact_of (least + 1) count entries sorted.1
    (narrower least count (keys_of entries)
    (weaker (λ key. entry.0 < key) (λ key. least < key) (λ key is. omega (arith, same, is)) (keys_of entries) above) within.1)))
    (λ other.
    let first_above : least < entry.0 = omega (arith, other, within.0.0) in
    let all_above : AllByRecursion (λ key. least < key) (keys_of (entry ∷ entries)) =
    (first_above, weaker (λ key. entry.0 < key) (λ key. least < key) (λ key is. omega (arith, first_above, is)) (keys_of entries) above) in
    above_least fact_of least count (entry ∷ entries) all_above
    (told_from fact_of (least + 1) count (entry ∷ entries) sorted (narrower least count (keys_of (entry ∷ entries)) all_above within)))
    (cases_eq least entry.0)

-- ---- the parameters of a kind

first_is : (count : ℕ) → range_with_len 0 count ≡ first count
unfolding first
first_is count = refl

told_param : (group channel : ℕ) (param : Param) (value : Option ℕ) (is_loose : Bool) →
    option_to_list (option_map (λ state. param_fact group channel param state.value state.loose) (param_state value is_loose))
    ≡ cond (is_told value is_loose) (param_fact group channel param value is_loose ∷ []) []
told_param group channel param None true = refl
told_param group channel param None false = refl
told_param group channel param (Some n) is_loose = refl

pub params_told : (group channel : ℕ) (kind : ParamKind) (entries : List (ℕ × ParamState)) (state : Channel)
    → IsInOrder entries → All (λ entry. entry.0 < 16384) entries → IsOf kind entries state
    → map (entry_fact group channel kind) entries ≡ params_in_order group channel kind state
params_told group channel kind entries state ordered below is =
    let fact_of = entry_fact group channel kind in
    let at : ℕ → List Fact = λ number. param_facts group channel state (param_of kind number) in
    let within =
    weaker (λ number. number < 16384) (λ key. (0 ≤ key) × (key < 0 + 16384)) (λ key is_below. (omega arith, omega (arith, is_below)))
    (keys_of entries)
    (recursion_from_All (λ number. number < 16384) (keys_of entries) (All-map (λ number. number < 16384) (λ entry. entry.0) entries below)) in
    sym (told_from fact_of 0 16384 entries (strictly_sorted entries ordered) within)
    ∙ ap (flat_map (told_at fact_of entries)) (first_is 16384)
    ∙ each_below (told_at fact_of entries) at 16384
    (λ number _. ap (λ told. option_to_list (option_map (λ param_is. fact_of (number, param_is)) told)) (is number)
    ∙ told_param group channel (param_of kind number) (state.params (param_of kind number)) (state.loose (param_of kind number)))
    ∙ sym (by_rows at 128)
    ∙ each_below (λ bank. flat_map (λ index. at (number_of bank index)) (first 128))
    (λ bank. flat_map (λ index. param_facts group channel state (record { kind = kind; bank = bank; index = index })) (first 128)) 128
    (λ bank _. each_below (λ index. at (number_of bank index))
    (λ index. param_facts group channel state (record { kind = kind; bank = bank; index = index })) 128
    (λ index index_below. ap (param_facts group channel state) (param_again kind bank index index_below)))
