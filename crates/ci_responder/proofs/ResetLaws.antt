-- The state as it was at first.
use Rattle.std.proofs.Common.{arith, ◌≡◌, ◌<◌, ◌≤◌, ◌+◌, ◌∙◌, ap, sym, refl, subst, ℕ, zero, suc, Bool, List, [], ◌∷◌, length}
use Rattle.std.proofs.Common.{map, get_or, set}
use Rattle.std.specs.List.{All}
use Rattle.std.specs.Map.{keys_of}
use Rattle.indexmap.specs.Layout.{set_value_at}
use Rattle.function_blocks.specs.declared.setup.Profile.{Profile}
use Rattle.ci_responder.specs.declared.kept.CiBlock.{CiBlock}
use Rattle.ci_responder.specs.declared.keys.Key.{Key}
use Rattle.ci_responder.specs.Held.{IsCiBlock}
use Rattle.ci_responder.specs.Keys.{first_states, key_of}
use Rattle.ci_responder.specs.Reset.{unspent}

-- ---- the blocks

-- the blocks, of which so many from the front have all their MUIDs again
abbrev pub reset_to : ℕ → List CiBlock → List CiBlock
reset_to zero blocks = blocks
reset_to (suc k) [] = []
reset_to (suc k) (block ∷ blocks) = unspent block ∷ reset_to k blocks

reset_next : (blocks : List CiBlock) (k : ℕ) (d : CiBlock)
    → set (reset_to k blocks) k (unspent (get_or (reset_to k blocks) k d)) ≡ reset_to (suc k) blocks
reset_next [] zero d = refl
reset_next [] (suc k) d = refl
reset_next (block ∷ blocks) zero d = refl
reset_next (block ∷ blocks) (suc k) d = ap (λ rest. unspent block ∷ rest) (reset_next blocks k d)

-- one more of them
pub reset_more : (blocks now : List CiBlock) (k : ℕ) (d : CiBlock) → now ≡ reset_to k blocks
    → set now k (unspent (get_or now k d)) ≡ reset_to (k + 1) blocks
reset_more blocks now k d is =
    let next : suc k ≡ k + 1 = omega arith in
    ap (λ bs. set bs k (unspent (get_or bs k d))) is
    ∙ reset_next blocks k d
    ∙ ap (λ n. reset_to n blocks) next

reset_whole : (blocks : List CiBlock) → reset_to (length blocks) blocks ≡ map unspent blocks
reset_whole [] = refl
reset_whole (block ∷ blocks) = ap (λ rest. unspent block ∷ rest) (reset_whole blocks)

-- all of them
pub reset_all : (blocks now : List CiBlock) (k : ℕ) → now ≡ reset_to k blocks → length blocks ≤ k → k ≤ length blocks
    → now ≡ map unspent blocks
reset_all blocks now k is least most =
    let whole : k ≡ length blocks = omega (arith, least, most) in
    is ∙ ap (λ n. reset_to n blocks) whole ∙ reset_whole blocks

unspent_fits : (b : CiBlock) → IsCiBlock b → IsCiBlock (unspent b)
unspent_fits b fits = record { groups = fits.groups; muids = fits.muids; few = fits.few }

unspent_fit : (blocks : List CiBlock) → All IsCiBlock blocks → All IsCiBlock (map unspent blocks)
unspent_fit [] fit k d within = absurd (omega (arith, within))
unspent_fit (b ∷ bs) fit zero d within = unspent_fits b (fit zero d (omega arith))
unspent_fit (b ∷ bs) fit (suc k) d within =
    unspent_fit bs (λ n e less. fit (suc n) e (omega (arith, less))) k d (omega (arith, within))

pub reset_fit : (blocks now : List CiBlock) → now ≡ map unspent blocks → All IsCiBlock blocks → All IsCiBlock now
reset_fit blocks now is fit =
    let P : List CiBlock → Type 0 = All IsCiBlock in
    subst P (sym is) (unspent_fit blocks fit)

-- ---- the profiles

-- the profiles, of which so many from the front are as the setup has them
abbrev pub switched_to : ℕ → List Profile → List (Key × Bool) → List (Key × Bool)
switched_to zero ps es = es
switched_to (suc k) [] es = es
switched_to (suc k) (p ∷ ps) [] = []
switched_to (suc k) (p ∷ ps) (e ∷ es) = (e.0, p.on) ∷ switched_to k ps es

length_switched : (k : ℕ) (ps : List Profile) (es : List (Key × Bool)) → length (switched_to k ps es) ≡ length es
length_switched zero ps es = refl
length_switched (suc k) [] es = refl
length_switched (suc k) (p ∷ ps) [] = refl
length_switched (suc k) (p ∷ ps) (e ∷ es) = ap suc (length_switched k ps es)

abbrev first_key : Key → List Key → Key
first_key k [] = k
first_key k (x ∷ xs) = x

abbrev rest_keys : List Key → List Key
rest_keys [] = []
rest_keys (x ∷ xs) = xs

length_keys : (ps : List Profile) (es : List (Key × Bool)) → keys_of es ≡ map key_of ps → length es ≡ length ps
length_keys [] [] same = refl
length_keys [] (e ∷ es) same = let n : suc (length (keys_of es)) ≡ 0 = ap length same in absurd (omega (arith, n))
length_keys (p ∷ ps) [] same = let n : 0 ≡ suc (length (map key_of ps)) = ap length same in absurd (omega (arith, n))
length_keys (p ∷ ps) (e ∷ es) same = ap suc (length_keys ps es (ap rest_keys same))

-- there is a profile for each of the setup's
pub within_states : (ps : List Profile) (es now : List (Key × Bool)) (k n : ℕ) → keys_of es ≡ map key_of ps
    → now ≡ switched_to k ps es → n < length ps → n < length now
within_states ps es now k n same is within =
    omega (arith, within, length_keys ps es same, length_switched k ps es, ap length is)

switched_next : (ps : List Profile) (k : ℕ) (p : Profile) (es : List (Key × Bool)) → k < length ps → p ≡ get_or ps k p
    → set_value_at (switched_to k ps es) k p.on ≡ switched_to (suc k) ps es
switched_next [] k p es within is = absurd (omega (arith, within))
switched_next (q ∷ ps) zero p [] within is = refl
switched_next (q ∷ ps) zero p (e ∷ es) within is = ap (λ r. (e.0, r.on) ∷ es) is
switched_next (q ∷ ps) (suc k) p [] within is = refl
switched_next (q ∷ ps) (suc k) p (e ∷ es) within is =
    ap (λ rest. (e.0, q.on) ∷ rest) (switched_next ps k p es (omega (arith, within)) is)

-- one more of them
pub switched_more : (ps : List Profile) (k : ℕ) (p : Profile) (es now : List (Key × Bool)) → now ≡ switched_to k ps es
    → k < length ps → p ≡ get_or ps k p → set_value_at now k p.on ≡ switched_to (k + 1) ps es
switched_more ps k p es now is within there =
    let next : suc k ≡ k + 1 = omega arith in
    ap (λ states. set_value_at states k p.on) is
    ∙ switched_next ps k p es within there
    ∙ ap (λ n. switched_to n ps es) next

switched_whole : (ps : List Profile) (es : List (Key × Bool)) → keys_of es ≡ map key_of ps
    → switched_to (length ps) ps es ≡ first_states ps
switched_whole [] [] same = refl
switched_whole [] (e ∷ es) same = let n : suc (length (keys_of es)) ≡ 0 = ap length same in absurd (omega (arith, n))
switched_whole (p ∷ ps) [] same = let n : 0 ≡ suc (length (map key_of ps)) = ap length same in absurd (omega (arith, n))
switched_whole (p ∷ ps) (e ∷ es) same =
    ap (λ key. (key, p.on) ∷ switched_to (length ps) ps es) (ap (first_key e.0) same)
    ∙ ap (λ rest. (key_of p, p.on) ∷ rest) (switched_whole ps es (ap rest_keys same))

-- all of them
pub switched_all : (ps : List Profile) (es now : List (Key × Bool)) (k : ℕ) → keys_of es ≡ map key_of ps
    → now ≡ switched_to k ps es → length ps ≤ k → k ≤ length ps → now ≡ first_states ps
switched_all ps es now k same is least most =
    let whole : k ≡ length ps = omega (arith, least, most) in
    is ∙ ap (λ n. switched_to n ps es) whole ∙ switched_whole ps es same
