-- The table of the two digits of each byte.
use Rattle.std.proofs.Common.{◌≡◌, ℕ, zero, suc, ◌+◌, ◌-◌, ◌*◌, ◌/◌, ◌%◌, ◌<◌, Bool, true, ◌&&◌}
use Rattle.std.proofs.Common.{T, eqb, get_or, ap, ◌∙◌, inl, inr, arith, eq-zero-or-pos, eqb→eq}
use lib.Ieee.Fits.{and_l, and_r}
use Rattle.text_lines.specs.Fields.{hex_digit}
use Rattle.text_lines.specs.declared.put.TheConstants.{HEX_PAIRS}

abbrev are_pairs : ℕ → Bool
are_pairs zero = true
are_pairs (suc p) =
    (eqb (get_or HEX_PAIRS (p * 2) 0) (hex_digit (p / 16)) && eqb (get_or HEX_PAIRS (p * 2 + 1) 0) (hex_digit (p % 16))) && are_pairs p

below : (n p : ℕ) → T (are_pairs n) → p < n
    → (get_or HEX_PAIRS (p * 2) 0 ≡ hex_digit (p / 16)) × (get_or HEX_PAIRS (p * 2 + 1) 0 ≡ hex_digit (p % 16))
below zero p t h = absurd (omega arith)
below (suc n) p t h =
    elim (eq-zero-or-pos (n - p)) [
      | inl z ↦ let e : p ≡ n = omega arith in let a = and_l _ (are_pairs n) t in rw e (eqb→eq _ _ (and_l _ _ a), eqb→eq _ _ (and_r _ _ a))
      | inr g ↦ below n p (and_r _ (are_pairs n) t) (omega arith)
    ]

-- the two digits of the lowest byte of a number
pub first_digit : (n : ℕ) → get_or HEX_PAIRS (n % 256 * 2) 0 ≡ hex_digit (n / 16 % 16)
first_digit n = (below 256 (n % 256) tt (omega arith)).0 ∙ ap hex_digit (omega arith)

pub second_digit : (n : ℕ) → get_or HEX_PAIRS (n % 256 * 2 + 1) 0 ≡ hex_digit (n % 16)
second_digit n = (below 256 (n % 256) tt (omega arith)).1 ∙ ap hex_digit (omega arith)
