use Rattle.std.proofs.Common.{ℕ, ◌+◌, ◌*◌, ◌-◌, ◌/◌, ◌^◌, ◌≡◌, ◌<◌, ◌≤◌, refl, arith, leb}
use Rattle.std.proofs.lemmas.Bool.{cond_both, leb-true}
use Rattle.bit_scaling.specs.ForProofs.Scaled.{down7_up, down14_up, release_down_up, velocity_down_up}
use Rattle.bit_scaling.specs.Scaling.{up, IsIncreasing, KeepsEnds}

-- raised and lowered again
pub ruleset lowered_again = (down7_up, down14_up, release_down_up, velocity_down_up)

-- strictly increasing
pub up_7_16_increases : IsIncreasing 7 16
unfolding up
up_7_16_increases value greater h b = grind (arith, cond_both)

pub up_7_32_increases : IsIncreasing 7 32
unfolding up
up_7_32_increases value greater h b = grind (arith, cond_both)

pub up_14_32_increases : IsIncreasing 14 32
unfolding up
up_14_32_increases value greater h b = grind (arith, cond_both)

pub ruleset increases = (up_7_16_increases, up_7_32_increases, up_14_32_increases)

-- the least, the centre and the greatest
pub up_7_16_ends : KeepsEnds 7 16
unfolding up
up_7_16_ends = (refl, refl, refl)

pub up_7_32_ends : KeepsEnds 7 32
unfolding up
up_7_32_ends = (refl, refl, refl)

pub up_14_32_ends : KeepsEnds 14 32
unfolding up
up_14_32_ends = (refl, refl, refl)

pub ruleset keeps_ends = (up_7_16_ends, up_7_32_ends, up_14_32_ends)

-- up to the centre, and above it: there the bits below the highest are repeated
pub low_7_16 : (velocity : ℕ) → velocity ≤ 64 → up velocity 7 16 ≡ velocity * 512
unfolding up
low_7_16 velocity h = grind (arith, cond_both)

pub high_7_16 : (velocity : ℕ) → 64 < velocity → velocity < 128
    → up velocity 7 16 ≡ velocity * 512 + (velocity - 64) * 8 + (velocity - 64) / 8
unfolding up
high_7_16 velocity l h =
    cond_both (leb velocity 64) _ _ (λ u. u ≡ velocity * 512 + (velocity - 64) * 8 + (velocity - 64) / 8)
    (λ e. absurd (omega (arith, leb-true velocity 64 e))) (λ e. omega arith)

pub low_7_32 : (value : ℕ) → value ≤ 64 → up value 7 32 ≡ value * 2 ^ 25
unfolding up
low_7_32 value h = grind (arith, cond_both)

pub high_7_32 : (value : ℕ) → 64 < value → value < 128
    → up value 7 32
    ≡ value * 2 ^ 25 + (value - 64) * 2 ^ 19 + (value - 64) * 2 ^ 13 + (value - 64) * 2 ^ 7 + (value - 64) * 2 + (value - 64) / 32
unfolding up
high_7_32 value l h =
    cond_both (leb value 64) _ _ (λ u. u
    ≡ value * 2 ^ 25 + (value - 64) * 2 ^ 19 + (value - 64) * 2 ^ 13 + (value - 64) * 2 ^ 7 + (value - 64) * 2 + (value - 64) / 32)
    (λ e. absurd (omega (arith, leb-true value 64 e))) (λ e. omega arith)

pub low_14_32 : (value : ℕ) → value ≤ 8192 → up value 14 32 ≡ value * 2 ^ 18
unfolding up
low_14_32 value h = grind (arith, cond_both)

pub high_14_32 : (value : ℕ) → 8192 < value → value < 16384 → up value 14 32 ≡ value * 2 ^ 18 + (value - 8192) * 32 + (value - 8192) / 256
unfolding up
high_14_32 value l h =
    cond_both (leb value 8192) _ _ (λ u. u ≡ value * 2 ^ 18 + (value - 8192) * 32 + (value - 8192) / 256)
    (λ e. absurd (omega (arith, leb-true value 8192 e))) (λ e. omega arith)

pub ruleset raised_7_16 = (low_7_16, high_7_16)

pub ruleset raised_7_32 = (low_7_32, high_7_32)

pub ruleset raised_14_32 = (low_14_32, high_14_32)
