-- What is taken from a setup.
use Rattle.std.proofs.Common.{arith, ◌≡◌, ◌⊎◌, inl, inr, ◌<◌, ◌≤◌, ◌+◌, ◌-◌, ◌∙◌, ap, sym, refl, subst, ℕ, zero, suc, Bool}
use Rattle.std.proofs.Common.{true, false, not, if◌then◌else◌, ◌==◌, ◌&&◌, ◌||◌, List, [], ◌∷◌, ◌++◌, length}
use Rattle.std.proofs.Common.{length-append, nat_lt, ◌*◌, take, drop, slice_get, Option, Some, None, unwrap_or, true≢false}
use Rattle.std.proofs.lemmas.Bool.{eqb-true, eq-eqb, ltb-true}
use Rattle.std.proofs.lemmas.Bool.Decides.{nat_tests}
use Rattle.std.proofs.lemmas.List.Elements.{All-head, All-tail}
use Rattle.std.proofs.lemmas.List.{append_assoc, append-nil}
use Rattle.std.specs.List.{All, flat_map, list_any}
use Rattle.std.specs.Str.{bytes_eq}
use Rattle.function_blocks.specs.declared.setup.Block.{Block}
use Rattle.function_blocks.specs.declared.setup.Place.{Place}
use Rattle.function_blocks.specs.declared.setup.Place.TheVariants as place
use Rattle.function_blocks.specs.declared.setup.Profile.{Profile}
use Rattle.function_blocks.specs.Blocks.{IsBlock, muids_of}
use Rattle.function_blocks.specs.Profiles.{is_same_profile, profiles_are_distinct, same_place}
use Rattle.ci_responder.specs.ForProofs.SameKeys.{left, right}
use Rattle.ci_initiator.specs.Known.{are_different, same_watch}
use Rattle.ci_initiator.specs.Watching.{IsLeastUnnamed, first_unnamed, has_ci_at, is_named}
use Rattle.ci_initiator.specs.Watching.{names_muid, own_muid, watch_at, watch_where, watched_block}

-- ---- items by their places

or-true : (a b : Bool) → b ≡ true → (a || b) ≡ true
or-true true b is = refl
or-true false b is = is

any-append : {X : Type 0} (p : X → Bool) (xs ys : List X) → list_any p (xs ++ ys) ≡ (list_any p xs || list_any p ys)
any-append p [] ys = refl
any-append p (x ∷ xs) ys = ap (λ b. p x || b) (any-append p xs ys) ∙ sym (grouped (p x))
  where
    grouped : (b : Bool) → ((b || list_any p xs) || list_any p ys) ≡ (b || (list_any p xs || list_any p ys))
    grouped true = refl
    grouped false = refl

pub take-next : {X : Type 0} (xs : List X) (n : ℕ) (x : X) → slice_get xs n ≡ Some x → take (suc n) xs ≡ take n xs ++ x ∷ []
take-next [] n x is = let e : None ≡ Some x = is in cc
take-next (y ∷ ys) zero x is = ap (λ o. unwrap_or o x ∷ []) is
take-next (y ∷ ys) (suc n) x is = ap (λ zs. y ∷ zs) (take-next ys n x is)

drop-next : {X : Type 0} (xs : List X) (n : ℕ) (x : X) → slice_get xs n ≡ Some x → drop n xs ≡ x ∷ drop (suc n) xs
drop-next [] n x is = let e : None ≡ Some x = is in cc
drop-next (y ∷ ys) zero x is = ap (λ o. unwrap_or o x ∷ ys) is
drop-next (y ∷ ys) (suc n) x is = drop-next ys n x is

pub take-all : {X : Type 0} (xs : List X) (n : ℕ) → length xs ≤ n → take n xs ≡ xs
take-all [] zero few = refl
take-all [] (suc n) few = refl
take-all (x ∷ xs) zero few = absurd (omega (arith, few))
take-all (x ∷ xs) (suc n) few = ap (λ ys. x ∷ ys) (take-all xs n (omega (arith, few)))

-- ---- the watched block

pub block-here : (blocks : List Block) (ps : List Profile) (n : ℕ) (p : Profile) → slice_get ps n ≡ Some p
    → has_ci_at blocks p.block ≡ true →
    watched_block blocks (drop n ps) ≡ Some p.block
block-here blocks ps n p is has =
    ap (watched_block blocks) (drop-next ps n p is) ∙ ap (λ b. if b then Some p.block else watched_block blocks (drop (suc n) ps)) has

pub block-later : (blocks : List Block) (ps : List Profile) (n : ℕ) (p : Profile) → slice_get ps n ≡ Some p
    → has_ci_at blocks p.block ≡ false →
    watched_block blocks (drop n ps) ≡ watched_block blocks (drop (suc n) ps)
block-later blocks ps n p is has =
    ap (watched_block blocks) (drop-next ps n p is) ∙ ap (λ b. if b then Some p.block else watched_block blocks (drop (suc n) ps)) has

-- ---- the initiator's MUID

pub unnamed-here : (blocks : List Block) (k : ℕ) (tries : ℕ) → is_named blocks (k + 1) ≡ false → first_unnamed blocks tries (k + 1) ≡ k + 1
unnamed-here blocks k zero named = refl
unnamed-here blocks k (suc tries) named = ap (λ b. if b then first_unnamed blocks tries (k + 1 + 1) else k + 1) named

pub named-here : (blocks : List Block) (tries k : ℕ) → k < tries → is_named blocks (k + 1) ≡ true
    → first_unnamed blocks (tries - k) (k + 1) ≡ first_unnamed blocks (tries - (k + 1)) (k + 1 + 1)
named-here blocks tries k within named =
    let one : tries - k ≡ suc (tries - (k + 1)) = omega (arith, within) in
    ap (λ t. first_unnamed blocks t (k + 1)) one ∙ ap (λ b. if b then first_unnamed blocks (tries - (k + 1)) (k + 1 + 1) else k + 1) named

pub all-tried : (blocks : List Block) (tries k : ℕ) → k ≡ tries → first_unnamed blocks (tries - k) (k + 1) ≡ tries + 1
all-tried blocks tries k same =
    let none : tries - k ≡ 0 = omega (arith, same) in
    ap (λ t. first_unnamed blocks t (k + 1)) none ∙ ap (λ n. n + 1) same

own-is : (blocks : List Block) → first_unnamed blocks (length (muids_of blocks)) 1 ≡ own_muid blocks
unfolding own_muid
own-is blocks = refl

-- ---- the watches

flat-append : {X Y : Type 0} (f : X → List Y) (xs : List X) (y : X) → flat_map f (xs ++ y ∷ []) ≡ flat_map f xs ++ f y
flat-append f [] y = let nil : f y ++ [] ≡ f y = append-nil (f y) in nil
flat-append f (x ∷ xs) y = ap (λ rest. f x ++ rest) (flat-append f xs y) ∙ sym (append_assoc (f x) (flat_map f xs) (f y))

pub watches-more : (watched : Option ℕ) (first : ℕ) (ps : List Profile) (n : ℕ) (p : Profile) → slice_get ps n ≡ Some p →
    flat_map (watch_where watched first) (take (suc n) ps) ≡ flat_map (watch_where watched first) (take n ps) ++ watch_where watched first p
watches-more watched first ps n p is =
    ap (flat_map (watch_where watched first)) (take-next ps n p is) ∙ flat-append (watch_where watched first) (take n ps) p

pub few-watches : (watched : Option ℕ) (first : ℕ) (ps : List Profile) → length (flat_map (watch_where watched first) ps) ≤ length ps
few-watches None first [] = omega arith
few-watches None first (p ∷ ps) = omega (arith, few-watches None first ps)
few-watches (Some number) first [] = omega arith
few-watches (Some number) first (p ∷ ps) = by (p.block == number) (few-watches (Some number) first ps)
  where
    by : (b : Bool) → length (flat_map (watch_where (Some number) first) ps) ≤ length ps →
        length ((if b then watch_at first p.place p.id ∷ [] else []) ++ flat_map (watch_where (Some number) first) ps) ≤ length (p ∷ ps)
    by true few = omega (arith, few)
    by false few = omega (arith, few)

both : (a b : Bool) → a ≡ true → b ≡ true → (a && b) ≡ true
both true b one other = other
both false b one other = one

-- the same watch is of the same profile
same-places : (first : ℕ) (a b : Place) (one other : List ℕ) → same_watch (watch_at first a one) (watch_at first b other) ≡ true
    → (same_place a b && bytes_eq one other) ≡ true
same-places first place.Function place.Function one other same = right (first == first) _ same
same-places first (place.Group g) (place.Group h) one other same = both (g == h) _ (left (g == h) _ same) (right (g == h) _ same)
same-places first (place.Channel g c) (place.Channel h d) one other same =
    let rest = right (g == h) _ same in
    both (g == h && c == d) _ (both (g == h) _ (left (g == h) _ same) (left (c == d) _ rest)) (right (c == d) _ rest)
same-places first place.Function (place.Group h) one other same = absurd (true≢false (sym (right (first == h) _ same)))
same-places first place.Function (place.Channel h d) one other same = absurd (true≢false (sym (right (first == h) _ same)))
same-places first (place.Group g) place.Function one other same = absurd (true≢false (sym (right (g == first) _ same)))
same-places first (place.Group g) (place.Channel h d) one other same = absurd (true≢false (sym (right (g == h) _ same)))
same-places first (place.Channel g c) place.Function one other same = absurd (true≢false (sym (right (g == first) _ same)))
same-places first (place.Channel g c) (place.Group h) one other same = absurd (true≢false (sym (right (g == h) _ same)))

-- another watch of the block is of another profile
module _ (number first : ℕ) where
  another : (p : Profile) (ps : List Profile) → p.block ≡ number
      → list_any (same_watch (watch_at first p.place p.id)) (flat_map (watch_where (Some number) first) ps) ≡ true →
      list_any (is_same_profile p) ps ≡ true
  another p [] of any = absurd (true≢false (sym any))
  another p (q ∷ qs) of any = by (q.block == number) refl any (another p qs of)
    where
      -- what holds of the other watches
      Later : Type 0
      Later =
          list_any (same_watch (watch_at first p.place p.id)) (flat_map (watch_where (Some number) first) qs) ≡ true
          → list_any (is_same_profile p) qs ≡ true

      here : (c : Bool) → q.block ≡ number → same_watch (watch_at first p.place p.id) (watch_at first q.place q.id) ≡ c →
          (c || list_any (same_watch (watch_at first p.place p.id)) (flat_map (watch_where (Some number) first) qs)) ≡ true → Later
          → list_any (is_same_profile p) (q ∷ qs) ≡ true
      here true at same any later =
          let is : is_same_profile p q ≡ true =
          both (p.block == q.block) _ (eq-eqb p.block q.block (of ∙ sym at)) (same-places first p.place q.place p.id q.id same) in
          ap (λ b. b || list_any (is_same_profile p) qs) is
      here false at same any later = or-true (is_same_profile p q) (list_any (is_same_profile p) qs) (later any)

      by : (b : Bool) → (q.block == number) ≡ b
          → list_any (same_watch (watch_at first p.place p.id))
          ((if b then watch_at first q.place q.id ∷ [] else []) ++ flat_map (watch_where (Some number) first) qs)
          ≡ true →
          Later → list_any (is_same_profile p) (q ∷ qs) ≡ true
      by true at any later =
          here (same_watch (watch_at first p.place p.id) (watch_at first q.place q.id)) (eqb-true q.block number at) refl any later
      by false at any later = or-true (is_same_profile p q) (list_any (is_same_profile p) qs) (later any)

  not-is : (b : Bool) → not b ≡ true → b ≡ false
  not-is true is = absurd (true≢false (sym is))
  not-is false is = refl

  is-not : (b : Bool) → (b ≡ true → ⊥) → not b ≡ true
  is-not true never = absurd (never refl)
  is-not false never = refl

  pub different : (ps : List Profile) → profiles_are_distinct ps ≡ true
      → are_different (flat_map (watch_where (Some number) first) ps) ≡ true
  different [] distinct = refl
  different (p ∷ ps) distinct = by (p.block == number) refl (different ps (right _ _ distinct))
    where
      by : (b : Bool) → (p.block == number) ≡ b → are_different (flat_map (watch_where (Some number) first) ps) ≡ true →
          are_different ((if b then watch_at first p.place p.id ∷ [] else []) ++ flat_map (watch_where (Some number) first) ps) ≡ true
      by false at rest = rest
      by true at rest =
          both (not (list_any (same_watch (watch_at first p.place p.id)) (flat_map (watch_where (Some number) first) ps))) _
          (is-not _ (λ any. true≢false
          (sym (another p ps (eqb-true p.block number at) any) ∙ not-is (list_any (is_same_profile p) ps) (left _ _ distinct))))
          rest

none-watched : (first : ℕ) (ps : List Profile) → flat_map (watch_where None first) ps ≡ []
none-watched first [] = refl
none-watched first (p ∷ ps) = none-watched first ps

pub all-different : (watched : Option ℕ) (first : ℕ) (ps : List Profile) → profiles_are_distinct ps ≡ true
    → are_different (flat_map (watch_where watched first) ps) ≡ true
all-different None first ps distinct = ap are_different (none-watched first ps)
all-different (Some number) first ps distinct = different number first ps distinct

-- ---- the least MUID that isn't named

-- what is named is among the MUIDs
named-among : (blocks : List Block) (n : ℕ) → is_named blocks n ≡ true → list_any (λ m. m == n) (muids_of blocks) ≡ true
named-among [] n named = named
named-among (b ∷ bs) n named = any-append (λ m. m == n) b.muids (muids_of bs) ∙ by (names_muid n b) named (named-among bs n)
  where
    by : (here : Bool) → (here || is_named bs n) ≡ true → (is_named bs n ≡ true → list_any (λ m. m == n) (muids_of bs) ≡ true) →
        (here || list_any (λ m. m == n) (muids_of bs)) ≡ true
    by true is rest = refl
    by false is rest = rest is

-- without a number
abbrev without : ℕ → List ℕ → List ℕ
without n [] = []
without n (m ∷ ms) = if m == n then without n ms else m ∷ without n ms

without-few : (n : ℕ) (ms : List ℕ) → length (without n ms) ≤ length ms
without-few n [] = omega arith
without-few n (m ∷ ms) = by (m == n) (without-few n ms)
  where
    by : (b : Bool) → length (without n ms) ≤ length ms → length (if b then without n ms else m ∷ without n ms) ≤ length (m ∷ ms)
    by true few = omega (arith, few)
    by false few = omega (arith, few)

without-fewer : (n : ℕ) (ms : List ℕ) → list_any (λ m. m == n) ms ≡ true → length (without n ms) < length ms
without-fewer n [] any = absurd (true≢false (sym any))
without-fewer n (m ∷ ms) any = by (m == n) any (without-fewer n ms)
  where
    by : (b : Bool) → (b || list_any (λ m. m == n) ms) ≡ true → (list_any (λ m. m == n) ms ≡ true → length (without n ms) < length ms) →
        length (if b then without n ms else m ∷ without n ms) < length (m ∷ ms)
    by true is rest = omega (arith, without-few n ms)
    by false is rest = omega (arith, rest is)

without-others : (n k : ℕ) (ms : List ℕ) → (n ≡ k → ⊥) → list_any (λ m. m == k) ms ≡ true → list_any (λ m. m == k) (without n ms) ≡ true
without-others n k [] apart any = any
without-others n k (m ∷ ms) apart any = by (m == n) (m == k) refl refl any (without-others n k ms apart)
  where
    by : (b c : Bool) → (m == n) ≡ b → (m == k) ≡ c → (c || list_any (λ m. m == k) ms) ≡ true →
        (list_any (λ m. m == k) ms ≡ true → list_any (λ m. m == k) (without n ms) ≡ true) →
        list_any (λ m. m == k) (if b then without n ms else m ∷ without n ms) ≡ true
    by true true same other is rest = absurd (apart (sym (eqb-true m n same) ∙ eqb-true m k other))
    by true false same other is rest = rest is
    by false true same other is rest = ap (λ d. d || list_any (λ m. m == k) (without n ms)) other
    by false false same other is rest = or-true (m == k) (list_any (λ m. m == k) (without n ms)) (rest is)

-- so many different numbers aren't among fewer
among-few : (n : ℕ) (ms : List ℕ) → ((k : ℕ) → 0 < k → k ≤ n → list_any (λ m. m == k) ms ≡ true) → n ≤ length ms
among-few zero ms each = omega arith
among-few (suc n) ms each =
    let fewer = without-fewer (suc n) ms (each (suc n) (omega arith) (omega arith)) in
    let rest = among-few n (without (suc n) ms)
    (λ k some within. without-others (suc n) k ms (λ same. omega (arith, same, within)) (each k some (omega (arith, within)))) in
    omega (arith, fewer, rest)

-- What a search from a number on has found: all before it are named, and it isn't, or nothing was left to
-- try.
abbrev Found : List Block → ℕ → ℕ → ℕ → Type 0
Found blocks tries start r =
    ((n : ℕ) → start ≤ n → n < r → is_named blocks n ≡ true) × (start ≤ r) × ((is_named blocks r ≡ false) ⊎ (r ≡ tries + start))

found-later : (blocks : List Block) (tries start r : ℕ) → is_named blocks start ≡ true → Found blocks tries (start + 1) r
    → Found blocks (suc tries) start r
found-later blocks tries start r named found =
    ((λ n least below. from n (start == n) refl least below), omega (arith, found.1), last found.2)
  where
    from : (n : ℕ) (b : Bool) → (start == n) ≡ b → start ≤ n → n < r → is_named blocks n ≡ true
    from n true same least below = ap (is_named blocks) (sym (eqb-true start n same)) ∙ named
    from n false other least below = found.0 n (grind (arith, other, least)) below

    last : (is_named blocks r ≡ false) ⊎ (r ≡ tries + (start + 1)) → (is_named blocks r ≡ false) ⊎ (r ≡ suc tries + start)
    last (inl unnamed) = inl unnamed
    last (inr all) = inr (omega (arith, all))

found-from : (blocks : List Block) (tries start : ℕ) → Found blocks tries start (first_unnamed blocks tries start)
found-from blocks zero start = ((λ n least below. absurd (omega (arith, least, below))), omega arith, inr (omega arith))
found-from blocks (suc tries) start = by (is_named blocks start) refl (found-from blocks tries (start + 1))
  where
    by : (b : Bool) → is_named blocks start ≡ b → Found blocks tries (start + 1) (first_unnamed blocks tries (start + 1)) →
        Found blocks (suc tries) start (if b then first_unnamed blocks tries (start + 1) else start)
    by true named rest = found-later blocks tries start (first_unnamed blocks tries (start + 1)) named rest
    by false named rest = ((λ n least below. absurd (omega (arith, least, below))), omega arith, inl named)

least-for : (blocks : List Block) (tries : ℕ) → length (muids_of blocks) ≤ tries → IsLeastUnnamed blocks (first_unnamed blocks tries 1)
least-for blocks tries few =
    let found = found-from blocks tries 1 in
    record { some = found.1; unnamed = by (is_named blocks found-muid) refl found.2; least = found.0 }
  where
    found-muid : ℕ
    found-muid = first_unnamed blocks tries 1

    upto : (k : ℕ) (b : Bool) → (k == found-muid) ≡ b → is_named blocks found-muid ≡ true → 0 < k → k ≤ found-muid
        → is_named blocks k ≡ true
    upto k true same named some within = ap (is_named blocks) (eqb-true k found-muid same) ∙ named
    upto k false other named some within = (found-from blocks tries 1).0 k (omega (arith, some)) (grind (arith, other, within))

    by : (b : Bool) → is_named blocks found-muid ≡ b → (is_named blocks found-muid ≡ false) ⊎ (found-muid ≡ tries + 1)
        → is_named blocks found-muid ≡ false
    by false is other = is
    by true is (inl unnamed) = unnamed
    by true is (inr all) =
        absurd (omega (
          arith,
          few,
          all,
          among-few found-muid (muids_of blocks) (λ k some within. named-among blocks k (upto k (k == found-muid) refl is some within)),
        ))

pub least_unnamed : (blocks : List Block) → IsLeastUnnamed blocks (own_muid blocks)
least_unnamed blocks =
    let L : ℕ → Type 0 = λ muid. IsLeastUnnamed blocks muid in
    subst L (own-is blocks) (least-for blocks (length (muids_of blocks)) (omega arith))

-- there is only one
least-below : (blocks : List Block) (one other : ℕ) → IsLeastUnnamed blocks one → IsLeastUnnamed blocks other → one < other → ⊥
least-below blocks one other is least below = true≢false (sym (least.least one is.some below) ∙ is.unnamed)

least-once : (blocks : List Block) (one other : ℕ) → IsLeastUnnamed blocks one → IsLeastUnnamed blocks other → one ≡ other
least-once blocks one other is least = by (nat_lt one other) (nat_lt other one) refl refl
  where
    by : (b c : Bool) → nat_lt one other ≡ b → nat_lt other one ≡ c → one ≡ other
    by true c below past = absurd (least-below blocks one other is least (ltb-true one other below))
    by false true below past = absurd (least-below blocks other one least is (ltb-true other one past))
    by false false below past = grind (arith, nat_tests, below, past)

-- ---- how many MUIDs there are

length-flat : (bs : List Block) → All IsBlock bs → length (muids_of bs) ≤ 16 * length bs
length-flat [] fit = omega arith
length-flat (b ∷ bs) fit =
    let one : IsBlock b = All-head IsBlock b bs fit in
    omega (arith, length-append b.muids (muids_of bs), one.few_muids, length-flat bs (All-tail IsBlock b bs fit))

pub least-of-setup : (blocks : List Block) (tries : ℕ) → All IsBlock blocks → tries ≡ 16 * length blocks
    → IsLeastUnnamed blocks (first_unnamed blocks tries 1)
least-of-setup blocks tries fit all = least-for blocks tries (omega (arith, all, length-flat blocks fit))

pub found-is-own : (blocks : List Block) (tries : ℕ) → All IsBlock blocks → tries ≡ 16 * length blocks
    → first_unnamed blocks tries 1 ≡ own_muid blocks
found-is-own blocks tries fit all =
    least-once blocks (first_unnamed blocks tries 1) (own_muid blocks) (least-of-setup blocks tries fit all) (least_unnamed blocks)
