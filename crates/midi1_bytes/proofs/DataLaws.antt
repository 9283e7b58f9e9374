-- The data bytes of an exclusive that a parser has open.
use Rattle.std.proofs.Common.{ℕ, ◌≡◌, ◌<◌, ◌-◌, ◌∙◌, ap, sym, subst, List, [], ◌∷◌, ◌++◌, length, take, drop, arith, length-append}
use Rattle.std.proofs.Math.Seq.{take-append_seam}
use Rattle.midi1_bytes.specs.Answers.{payload_of}
use Rattle.midi1_bytes.specs.Messages.{AreData}

then-one : (bytes : List ℕ) (byte : ℕ) → AreData bytes → byte < 128 → AreData (bytes ++ byte ∷ [])
then-one [] byte all below = (below, tt)
then-one (first ∷ rest) byte all below = (all.0, then-one rest byte all.1 below)

-- with one more of them
pub more_data : (bytes : List ℕ) (byte : ℕ) → take 1 bytes ≡ 240 ∷ [] → AreData (drop 1 bytes) → byte < 128
    → AreData (drop 1 (bytes ++ byte ∷ []))
more_data [] byte framed all below = absurd cc
more_data (first ∷ rest) byte framed all below = then-one rest byte all below

-- before the first of them
pub no_data : (bytes : List ℕ) → take 1 bytes ≡ 240 ∷ [] → AreData (drop 1 (take 1 bytes))
no_data bytes framed = (let P : List ℕ → Type 0 = λ bs. AreData (drop 1 bs) in subst P (sym framed) tt)

-- between F0 and F7
pub lent_data : (bytes : List ℕ) → take 1 bytes ≡ 240 ∷ [] → AreData (drop 1 bytes) → AreData (payload_of (bytes ++ 247 ∷ []))
lent_data [] framed all = absurd cc
lent_data (first ∷ rest) framed all =
    let size : length (first ∷ rest ++ 247 ∷ []) - 2 ≡ length rest = omega (arith, length-append rest (247 ∷ [])) in
    let same : take (length (first ∷ rest ++ 247 ∷ []) - 2) (rest ++ 247 ∷ []) ≡ rest =
    ap (λ n. take n (rest ++ 247 ∷ [])) size ∙ take-append_seam rest (247 ∷ []) in
    let P : List ℕ → Type 0 = λ bs. AreData bs in subst P (sym same) all
