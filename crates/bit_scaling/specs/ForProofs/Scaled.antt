-- Values that are raised and lowered again, and the ranges of both.
use Rattle.std.specs.Prelude.{ℕ, ◌≡◌, ◌+◌, ◌*◌, ◌-◌, ◌/◌, ◌^◌, ◌<◌, ◌≤◌, min, max, nat_le}
use Rattle.std.proofs.Common.{ap, sym, subst, ◌∙◌, lit<, lit≤}
use Rattle.std.proofs.lemmas.Bool.{cond_both}
use Rattle.std.proofs.lemmas.Nat.{div-mul-add}
use Rattle.std.proofs.Math.Nat.{add-zero, div-lt_iff_lt-mul, le-max_left, le-pred_of_lt, lt_of_le_of_lt, max-eq_right, max-le, min-le_left}
use Rattle.bit_scaling.specs.Scaling.{up, down7, down14, release_down, velocity_down}

-- a raised value is the value times a power of two, plus less than that power
whole : (value size : ℕ) → 0 < size → value * size / size ≡ value
whole value size above = ap (λ n. n / size) (sym (add-zero (value * size))) ∙ div-mul-add value size 0 above

whole_and_more : (value size repeated : ℕ) → size - 1 < size → (value * size + min (size - 1) repeated) / size ≡ value
whole_and_more value size repeated below =
    div-mul-add value size (min (size - 1) repeated) (lt_of_le_of_lt (min-le_left (size - 1) repeated) below)

-- ---- raised and lowered again

pub down7_up : (value : ℕ) → value < 128 → down7 (up value 7 32) ≡ value
unfolding up down7
down7_up value h =
    cond_both (nat_le value 64) _ _ (λ u. u / 2 ^ 25 ≡ value) (λ e. whole value (2 ^ 25) (lit< tt))
    (λ e. whole_and_more value (2 ^ 25) _ (lit< tt))

pub down14_up : (value : ℕ) → value < 16384 → down14 (up value 14 32) ≡ value
unfolding up down14
down14_up value h =
    cond_both (nat_le value 8192) _ _ (λ u. u / 2 ^ 18 ≡ value) (λ e. whole value (2 ^ 18) (lit< tt))
    (λ e. whole_and_more value (2 ^ 18) _ (lit< tt))

pub release_down_up : (velocity : ℕ) → velocity < 128 → release_down (up velocity 7 16) ≡ velocity
unfolding up release_down
release_down_up velocity h =
    cond_both (nat_le velocity 64) _ _ (λ u. u / 512 ≡ velocity) (λ e. whole velocity 512 (lit< tt))
    (λ e. whole_and_more velocity 512 _ (lit< tt))

pub velocity_down_up : (velocity : ℕ) → 0 < velocity → velocity < 128 → velocity_down (up velocity 7 16) ≡ velocity
unfolding release_down velocity_down
velocity_down_up velocity above h = ap (max 1) (release_down_up velocity h) ∙ max-eq_right above

-- ---- what is lowered fits

pub down7_fits : (value : ℕ) → value < 2 ^ 32 → down7 value < 128
unfolding down7
down7_fits value h = (div-lt_iff_lt-mul {k = 2 ^ 25} {x = value} {y = 128} (lit< tt)).1 h

pub down14_fits : (value : ℕ) → value < 2 ^ 32 → down14 value < 16384
unfolding down14
down14_fits value h = (div-lt_iff_lt-mul {k = 2 ^ 18} {x = value} {y = 16384} (lit< tt)).1 h

pub release_down_fits : (velocity : ℕ) → velocity < 2 ^ 16 → release_down velocity < 128
unfolding release_down
release_down_fits velocity h = (div-lt_iff_lt-mul {k = 512} {x = velocity} {y = 128} (lit< tt)).1 h

pub velocity_down_fits : (velocity : ℕ) → velocity < 2 ^ 16 → velocity_down velocity < 128
unfolding release_down velocity_down
velocity_down_fits velocity h =
    lt_of_le_of_lt (max-le {k = 127} (lit≤ tt) (le-pred_of_lt {m = 128} (release_down_fits velocity h))) (lit< tt)

pub velocity_down_above_zero : (velocity : ℕ) → 0 < velocity_down velocity
unfolding velocity_down
velocity_down_above_zero velocity = le-max_left 1 (velocity / 512)

-- ---- what is raised fits

pub up_7_16_fits : (velocity : ℕ) → velocity < 128 → up velocity 7 16 < 2 ^ 16
unfolding release_down
up_7_16_fits velocity h =
    let below : ℕ → Type 0 = λ n. n < 128 in
    (div-lt_iff_lt-mul {k = 512} {x = up velocity 7 16} {y = 128} (lit< tt)).0 (subst below (sym (release_down_up velocity h)) h)

pub up_7_32_fits : (value : ℕ) → value < 128 → up value 7 32 < 2 ^ 32
unfolding down7
up_7_32_fits value h =
    let below : ℕ → Type 0 = λ n. n < 128 in
    (div-lt_iff_lt-mul {k = 2 ^ 25} {x = up value 7 32} {y = 128} (lit< tt)).0 (subst below (sym (down7_up value h)) h)

pub up_14_32_fits : (value : ℕ) → value < 16384 → up value 14 32 < 2 ^ 32
unfolding down14
up_14_32_fits value h =
    let below : ℕ → Type 0 = λ n. n < 16384 in
    (div-lt_iff_lt-mul {k = 2 ^ 18} {x = up value 14 32} {y = 16384} (lit< tt)).0 (subst below (sym (down14_up value h)) h)
