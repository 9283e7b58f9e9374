-- The blocks that are kept.
use Rattle.std.proofs.Common.{arith, ◌≡◌, ◌<◌, ◌+◌, ◌∙◌, ap, sym, refl, ℕ, zero, suc, Bool, true, false, if◌then◌else◌, List, [], ◌∷◌, ◌++◌}
use Rattle.std.proofs.Common.{length, take, slice_get, slice_index_or, slice_set, None, Some, is_some, true≢false, add-zero, length-take}
use Rattle.ci_responder.proofs.ListLaws.{got, take-next}
use Rattle.function_blocks.specs.declared.setup.Block.{Block}
use Rattle.ci_responder.specs.declared.kept.CiBlock.{CiBlock}
use Rattle.ci_responder.specs.Held.{IsCiBlock, change_at, muid_in, next}
use Rattle.ci_responder.specs.History.{kept, kept_from}

some-within : (xs : List ℕ) (k : ℕ) → is_some (slice_get xs k) ≡ true → k < length xs
some-within [] k some = absurd (true≢false (sym some))
some-within (x ∷ xs) zero some = omega arith
some-within (x ∷ xs) (suc k) some = omega (arith, some-within xs k some)

by-ci : (has_ci : Bool) (muids : List ℕ) (spent : ℕ) → is_some (if has_ci then slice_get muids spent else None) ≡ true
    → spent < length muids
by-ci true muids spent some = some-within muids spent some
by-ci false muids spent some = absurd (true≢false (sym some))

-- a block with a MUID in force has one at that place
pub in_force : (blocks : List CiBlock) (n : ℕ) (d : CiBlock) → is_some (muid_in blocks n) ≡ true
    → (slice_index_or blocks n d).spent < length (slice_index_or blocks n d).muids
in_force [] n d some = absurd (true≢false (sym some))
in_force (b ∷ bs) zero d some = by-ci b.has_ci b.muids b.spent some
in_force (b ∷ bs) (suc n) d some = in_force bs n d some

pub number_within : (blocks : List CiBlock) (n : ℕ) → is_some (muid_in blocks n) ≡ true → n < length blocks
number_within [] n some = absurd (true≢false (sym some))
number_within (b ∷ bs) zero some = omega arith
number_within (b ∷ bs) (suc n) some = omega (arith, number_within bs n some)

-- a block is changed in its place
pub change_is_set : (blocks : List CiBlock) (n : ℕ) (d : CiBlock)
    → slice_set blocks n (next (slice_index_or blocks n d)) ≡ change_at next n blocks
change_is_set [] n d = refl
change_is_set (b ∷ bs) zero d = refl
change_is_set (b ∷ bs) (suc n) d = ap (λ rest. b ∷ rest) (change_is_set bs n d)

pub next_fits : (b : CiBlock) → IsCiBlock b → IsCiBlock (next b)
next_fits b fits = record { groups = fits.groups; muids = fits.muids; few = fits.few }

-- the blocks that are kept, and one more after them
kept-append : (spent : ℕ → ℕ) (number : ℕ) (bs cs : List Block)
    → kept_from number spent (bs ++ cs) ≡ kept_from number spent bs ++ kept_from (number + length bs) spent cs
kept-append spent number [] cs = ap (λ n. kept_from n spent cs) (sym (add-zero number))
kept-append spent number (b ∷ bs) cs =
    let counted : number + 1 + length bs ≡ number + length (b ∷ bs) = omega arith in
    ap (λ rest. kept (spent number) b ∷ rest)
    (kept-append spent (number + 1) bs cs ∙ ap (λ n. kept_from (number + 1) spent bs ++ kept_from n spent cs) counted)

pub kept-more : (spent : ℕ → ℕ) (bs : List Block) (i : ℕ) (b : Block) → Some b ≡ slice_get bs i →
    kept_from 0 spent (take (i + 1) bs) ≡ kept_from 0 spent (take i bs) ++ kept (spent i) b ∷ []
kept-more spent bs i b is =
    let at = got bs i b b is in
    let counted : 0 + length (take i bs) ≡ i = omega (arith, length-take i bs, at.0) in
    ap (kept_from 0 spent) (take-next bs i b is)
    ∙ kept-append spent 0 (take i bs) (b ∷ [])
    ∙ ap (λ n. kept_from 0 spent (take i bs) ++ kept (spent n) b ∷ []) counted
