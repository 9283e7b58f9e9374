-- The profiles that keys name.
use Rattle.std.proofs.Common.{subst, arith, ◌≡◌, ◌<◌, ◌+◌, ◌∙◌, ap, sym, refl, ℕ, zero, suc, Bool, true, false, cond, not}
use Rattle.std.proofs.Common.{◌||◌, List, [], ◌∷◌, ◌++◌, length, take, get_or, slice_get, map, nat_lt, None, Some, true≢false}
use Rattle.std.proofs.Common.{unwrap_or, Option}
use Rattle.std.specs.Prelude.{IfSome}
use Rattle.std.proofs.lemmas.Bool.{ltb-true}
use Rattle.std.proofs.lemmas.List.{flat_map_more, map-append}
use Rattle.std.specs.List.{list_any, position, position_or_len}
use Rattle.indexmap.specs.Layout.{set_value_at}
use Rattle.std.specs.Map.{set_value}
use Rattle.function_blocks.specs.declared.setup.Place.{Place}
use Rattle.function_blocks.specs.declared.setup.Profile.{Profile}
use Rattle.function_blocks.specs.Profiles.{is_same_profile, profiles_are_distinct}
use Rattle.ci_responder.specs.declared.keys.Key.{Key}
use Rattle.ci_responder.specs.ForProofs.Actions.{IsFirstOf}
use Rattle.ci_responder.specs.Keys.{first_states, key_of, same_key, state_in}
use Rattle.ci_responder.specs.Replies.{ids_of, listed}
use Rattle.ci_responder.specs.ForProofs.SameKeys.{key-is, key-itself, left, right}
use Rattle.ci_responder.proofs.ListLaws.{got, take-next}

-- the other way round
other-way : (a b : Key) → same_key a b ≡ false → same_key b a ≡ false
other-way a b other = by (same_key b a) refl
  where
    by : (c : Bool) → same_key b a ≡ c → same_key b a ≡ false
    by false e = e
    by true e = absurd (true≢false (sym (subst (λ k. same_key a k ≡ true) (sym (key-is b a e)) (key-itself a)) ∙ other))

not-true : (b : Bool) → not b ≡ true → b ≡ false
not-true false is = refl
not-true true is = absurd (true≢false (sym is))

or-left : (a b : Bool) → (a || b) ≡ false → a ≡ false
or-left false b is = refl
or-left true b is = is

or-right : (a b : Bool) → (a || b) ≡ false → b ≡ false
or-right false b is = is
or-right true b is = absurd (true≢false is)

-- no later profile has the key of this one
pub others-differ : (p : Profile) (ps : List Profile) → profiles_are_distinct (p ∷ ps) ≡ true → list_any (is_same_profile p) ps ≡ false
others-differ p ps distinct =
    not-true (list_any (is_same_profile p) ps) (left (not (list_any (is_same_profile p) ps)) (profiles_are_distinct ps) distinct)

pub rest-distinct : (p : Profile) (ps : List Profile) → profiles_are_distinct (p ∷ ps) ≡ true → profiles_are_distinct ps ≡ true
rest-distinct p ps distinct = right (not (list_any (is_same_profile p) ps)) (profiles_are_distinct ps) distinct

differs-at : (p : Profile) (ps : List Profile) (k : ℕ) (q : Profile) → list_any (is_same_profile p) ps ≡ false → k < length ps
    → same_key (key_of p) (key_of (get_or ps k q)) ≡ false
differs-at p [] k q none within = absurd (omega (arith, within))
differs-at p (r ∷ rs) zero q none within = or-left (is_same_profile p r) (list_any (is_same_profile p) rs) none
differs-at p (r ∷ rs) (suc k) q none within =
    differs-at p rs k q (or-right (is_same_profile p r) (list_any (is_same_profile p) rs) none) (omega (arith, within))

-- the key of a profile isn't among those before it
pub fresh : (ps : List Profile) (k : ℕ) (q : Profile) → profiles_are_distinct ps ≡ true → k < length ps
    → state_in (first_states (take k ps)) (key_of (get_or ps k q)) ≡ None
fresh [] k q distinct within = absurd (omega (arith, within))
fresh (p ∷ ps) zero q distinct within = refl
fresh (p ∷ ps) (suc k) q distinct within =
    let key : Key = key_of (get_or ps k q) in
    let other : same_key key (key_of p) ≡ false =
    other-way (key_of p) key (differs-at p ps k q (others-differ p ps distinct) (omega (arith, within))) in
    ap (λ b. cond b (Some p.on) (state_in (first_states (take k ps)) key)) other
    ∙ fresh ps k q (rest-distinct p ps distinct) (omega (arith, within))

pub fresh_at : (ps : List Profile) (k : ℕ) (p : Profile) (states : List (Key × Bool)) → profiles_are_distinct ps ≡ true
    → Some p ≡ slice_get ps k →
    states ≡ first_states (take k ps) → state_in states (key_of p) ≡ None
fresh_at ps k p states distinct is same =
    let at = got ps k p p is in
    ap (λ es. state_in es (key_of p)) same
    ∙ ap (λ q. state_in (first_states (take k ps)) (key_of q)) at.1
    ∙ fresh ps k p distinct at.0

-- one more profile of the setup
pub states-more : (ps : List Profile) (k : ℕ) (p : Profile) → Some p ≡ slice_get ps k
    → first_states (take (k + 1) ps) ≡ first_states (take k ps) ++ (key_of p, p.on) ∷ []
states-more ps k p is = ap first_states (take-next ps k p is) ∙ map-append (λ q. (key_of q, q.on)) (take k ps) (p ∷ [])

-- one more of the profiles that are listed
pub ids-more : (on : Bool) (block : ℕ) (place : Place) (es : List (Key × Bool)) (k : ℕ) (e : Key × Bool) → Some e ≡ slice_get es k →
    ids_of on block place (take (k + 1) es) ≡ ids_of on block place (take k es) ++ listed on block place e
ids-more on block place es k e is =
    ap (ids_of on block place) (take-next es k e is) ∙ sym (flat_map_more (listed on block place) [] (take k es) e)

-- the first profile of a key
pub first_of : (key : Key) (es : List (Key × Bool)) (n : ℕ) → position (same_key key) (map (λ e. e.0) es) ≡ Some n → IsFirstOf key es n
first_of key es n is =
    by (nat_lt at (length (map (λ e. e.0) es))) refl is
  where
    at : ℕ
    at = position_or_len (same_key key) (map (λ e. e.0) es)

    there : (ks : List (Key × Bool)) → position_or_len (same_key key) (map (λ e. e.0) ks) < length (map (λ e. e.0) ks) →
        IsFirstOf key ks (position_or_len (same_key key) (map (λ e. e.0) ks))
    there [] less = absurd (omega (arith, less))
    there (k ∷ ks) less = here (same_key key k.0) refl less (there ks)
      where
        here : (b : Bool) → same_key key k.0 ≡ b →
            cond (not b) (1 + position_or_len (same_key key) (map (λ e. e.0) ks)) 0 < length (map (λ e. e.0) (k ∷ ks)) →
            (position_or_len (same_key key) (map (λ e. e.0) ks) < length (map (λ e. e.0) ks) →
            IsFirstOf key ks (position_or_len (same_key key) (map (λ e. e.0) ks))) →
            IsFirstOf key (k ∷ ks) (cond (not b) (1 + position_or_len (same_key key) (map (λ e. e.0) ks)) 0)
        here true is below rest = is
        here false isnt below rest =
            let next : suc (position_or_len (same_key key) (map (λ e. e.0) ks)) ≡ 1 + position_or_len (same_key key) (map (λ e. e.0) ks) =
            omega arith in
            let P : ℕ → Type 0 = IsFirstOf key (k ∷ ks) in
            subst P next (isnt, rest (omega (arith, below)))

    by : (b : Bool) → nat_lt at (length (map (λ e. e.0) es)) ≡ b → cond b (Some at) None ≡ Some n → IsFirstOf key es n
    by false past none = let e : None ≡ Some n = none in cc
    by true in_list some =
        let same : at ≡ n = ap (λ o. unwrap_or o n) some in
        let P : ℕ → Type 0 = IsFirstOf key es in
        subst P same (there es (ltb-true at (length (map (λ e. e.0) es)) in_list))

pub first_within : (key : Key) (es : List (Key × Bool)) (n : ℕ) → IsFirstOf key es n → n < length es
first_within key [] n first = absurd first
first_within key (e ∷ es) zero first = omega arith
first_within key (e ∷ es) (suc n) first = omega (arith, first_within key es n first.1)

-- the value at the number of the first profile of a key is that of the key
pub first_is_set : (key : Key) (es : List (Key × Bool)) (n : ℕ) (on : Bool) → IsFirstOf key es n
    → set_value_at es n on ≡ set_value (same_key key) es on
first_is_set key [] n on first = refl
first_is_set key (e ∷ es) zero on first = ap (λ b. cond b ((e.0, on) ∷ es) (e ∷ set_value (same_key key) es on)) (sym first)
first_is_set key (e ∷ es) (suc n) on first =
    ap (λ rest. e ∷ rest) (first_is_set key es n on first.1)
    ∙ ap (λ b. cond b ((e.0, on) ∷ es) (e ∷ set_value (same_key key) es on)) (sym first.0)

pub length_set : (es : List (Key × Bool)) (n : ℕ) (on : Bool) → length (set_value_at es n on) ≡ length es
length_set [] n on = refl
length_set (e ∷ es) zero on = refl
length_set (e ∷ es) (suc n) on = ap suc (length_set es n on)

pub first_if : (key : Key) (es : List (Key × Bool)) (found : Option ℕ) → found ≡ position (same_key key) (map (λ e. e.0) es)
    → IfSome found (IsFirstOf key es)
first_if key es None is = tt
first_if key es (Some n) is = first_of key es n (sym is)
