-- The block of a group is the one that has it.
use Rattle.std.proofs.Common.{arith, ◌≡◌, ◌<◌, ◌+◌, ◌∙◌, ap, sym, refl, ℕ, zero, suc, Bool, true, false, cond, not}
use Rattle.std.proofs.Common.{◌&&◌, nat_le, nat_lt, List, [], ◌∷◌, length, slice_get, None, Some, unwrap_or, true≢false}
use Rattle.std.proofs.lemmas.Bool.{leb-true, lt-ltb, ltb-true}
use Rattle.std.specs.List.{list_all, position_or_len}
use Rattle.function_blocks.specs.declared.setup.Block.{Block}
use Rattle.function_blocks.specs.Blocks.{are_apart, has_ci, shares_group}
use Rattle.function_blocks.specs.Setups.{SetupData}
use Rattle.ci_responder.specs.History.{block_of, covers}
use Rattle.ci_responder.specs.ForProofs.SameKeys.{left, right}
use Rattle.ci_responder.proofs.ListLaws.{got}

both : (a b : Bool) → a ≡ true → b ≡ true → (a && b) ≡ true
both true b one other = other
both false b one other = one

not-both : (b : Bool) → not b ≡ true → b ≡ true → ⊥
not-both true is isnt = true≢false (sym is)
not-both false is isnt = true≢false (sym isnt)

-- two blocks that have a group share it
share : (group : ℕ) (a b : Block) → covers group a ≡ true → covers group b ≡ true → shares_group a b ≡ true
share group a b one other =
    let groups_one = right (has_ci a) (nat_le a.first group && nat_lt group (a.first + a.count)) one in
    let groups_other = right (has_ci b) (nat_le b.first group && nat_lt group (b.first + b.count)) other in
    let from_one = leb-true a.first group (left (nat_le a.first group) (nat_lt group (a.first + a.count)) groups_one) in
    let to_one = ltb-true group (a.first + a.count) (right (nat_le a.first group) (nat_lt group (a.first + a.count)) groups_one) in
    let from_other = leb-true b.first group (left (nat_le b.first group) (nat_lt group (b.first + b.count)) groups_other) in
    let to_other = ltb-true group (b.first + b.count) (right (nat_le b.first group) (nat_lt group (b.first + b.count)) groups_other) in
    both (has_ci a && has_ci b) (nat_lt a.first (b.first + b.count) && nat_lt b.first (a.first + a.count))
    (both (has_ci a) (has_ci b)
    (left (has_ci a) (nat_le a.first group && nat_lt group (a.first + a.count)) one)
    (left (has_ci b) (nat_le b.first group && nat_lt group (b.first + b.count)) other))
    (both (nat_lt a.first (b.first + b.count)) (nat_lt b.first (a.first + a.count))
    (lt-ltb a.first (b.first + b.count) (omega arith))
    (lt-ltb b.first (a.first + a.count) (omega arith)))

all-at : {X : Type 0} (p : X → Bool) (xs : List X) (n : ℕ) (x : X) → list_all p xs ≡ true → slice_get xs n ≡ Some x → p x ≡ true
all-at p [] n x all is = let e : None ≡ Some x = is in cc
all-at p (y ∷ ys) zero x all is =
    let same : x ≡ y = sym (ap (λ o. unwrap_or o x) is) in
    ap p same ∙ left (p y) (list_all p ys) all
all-at p (y ∷ ys) (suc n) x all is = all-at p ys n x (right (p y) (list_all p ys) all) is

-- the first block that has a group is the one that is known to have it
placed : (group : ℕ) (bs : List Block) (n : ℕ) (b : Block) → are_apart bs ≡ true → slice_get bs n ≡ Some b → covers group b ≡ true
    → position_or_len (covers group) bs ≡ n
placed group [] n b apart is has = let e : None ≡ Some b = is in cc
placed group (a ∷ bs) zero b apart is has =
    let same : a ≡ b = ap (λ o. unwrap_or o b) is in
    ap (λ t. cond (not t) (1 + position_or_len (covers group) bs) 0) (ap (covers group) same ∙ has)
placed group (a ∷ bs) (suc n) b apart is has =
    by (covers group a) refl (placed group bs n b (right (list_all (λ other. not (shares_group a other)) bs) (are_apart bs) apart) is has)
  where
    by : (c : Bool) → covers group a ≡ c → position_or_len (covers group) bs ≡ n
        → cond (not c) (1 + position_or_len (covers group) bs) 0 ≡ suc n
    by false other rest = omega (arith, rest)
    by true it rest =
        absurd (not-both (shares_group a b)
        (all-at (λ other. not (shares_group a other)) bs n b (left (list_all (λ other. not (shares_group a other)) bs) (are_apart bs) apart)
        is)
        (share group a b it has))

pub one_has : (setup : SetupData) (group number : ℕ) (block : Block) → are_apart setup.blocks ≡ true
    → slice_get setup.blocks number ≡ Some block → covers group block ≡ true →
    block_of setup group ≡ Some number
one_has setup group number block apart is has =
    let at : position_or_len (covers group) setup.blocks ≡ number = placed group setup.blocks number block apart is has in
    let within : number < length setup.blocks = (got setup.blocks number block block (sym is)).0 in
    ap (λ n. cond (nat_lt n (length setup.blocks)) (Some n) None) at
    ∙ ap (λ b. cond b (Some number) None) (lt-ltb number (length setup.blocks) within)

-- what is found passes
found : {X : Type 0} (p : X → Bool) (xs : List X) → position_or_len p xs < length xs
    → (x : X) × (slice_get xs (position_or_len p xs) ≡ Some x) × (p x ≡ true)
found p [] within = absurd (omega (arith, within))
found {X = X} p (y ∷ ys) within = by (p y) refl within (found p ys)
  where
    by : (b : Bool) → p y ≡ b → cond (not b) (1 + position_or_len p ys) 0 < length (y ∷ ys) →
        (position_or_len p ys < length ys → (x : X) × (slice_get ys (position_or_len p ys) ≡ Some x) × (p x ≡ true)) →
        (x : X) × (slice_get (y ∷ ys) (cond (not b) (1 + position_or_len p ys) 0) ≡ Some x) × (p x ≡ true)
    by true is below rest = (y, refl, is)
    by false isnt below rest =
        let more = rest (omega (arith, below)) in
        let next : 1 + position_or_len p ys ≡ suc (position_or_len p ys) = omega arith in
        (more.0, ap (slice_get (y ∷ ys)) next ∙ more.1, more.2)

pub found_has : (setup : SetupData) (group number : ℕ) → block_of setup group ≡ Some number →
    (block : Block) × (slice_get setup.blocks number ≡ Some block) × (covers group block ≡ true)
found_has setup group number is = by (nat_lt at (length setup.blocks)) refl is
  where
    at : ℕ
    at = position_or_len (covers group) setup.blocks

    by : (b : Bool) → nat_lt at (length setup.blocks) ≡ b → cond b (Some at) None ≡ Some number →
        (block : Block) × (slice_get setup.blocks number ≡ Some block) × (covers group block ≡ true)
    by false past none = let e : None ≡ Some number = none in cc
    by true within some =
        let same : at ≡ number = ap (λ o. unwrap_or o number) some in
        let one = found (covers group) setup.blocks (ltb-true at (length setup.blocks) within) in
        (one.0, ap (slice_get setup.blocks) (sym same) ∙ one.1, one.2)
