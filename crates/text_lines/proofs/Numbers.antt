-- The table of the texts of small numbers.
use Rattle.std.proofs.Common.{◌≡◌, ℕ, zero, suc, ◌+◌, ◌-◌, ◌*◌, ◌/◌, ◌%◌, ◌<◌, ◌≤◌, Bool, true, ◌&&◌, T, eqb, List}
use Rattle.std.proofs.Common.{[], ◌∷◌, length, take, get_or, refl, subst, inl, inr, arith, eq-zero-or-pos, eqb→eq}
use lib.Ieee.Fits.{and_l, and_r}
use Rattle.std.specs.Fmt.{decimal}
use Rattle.text_lines.specs.ForProofs.Digits.{two_digits}
use Rattle.text_lines.proofs.DecimalText.{decimal_one, decimal_two, decimal_three}
use Rattle.text_lines.specs.declared.decimal.TheConstants.{DECIMAL_PAIRS, SMALL_NUMBERS}

-- whether a test holds of each number below another one
abbrev all_below : (ℕ → Bool) → ℕ → Bool
all_below test zero = true
all_below test (suc n) = test n && all_below test n

each_below : (test : ℕ → Bool) (count n : ℕ) → T (all_below test count) → n < count → T (test n)
each_below test zero n t h = absurd (omega arith)
each_below test (suc count) n t h =
    elim (eq-zero-or-pos (count - n)) [
      | inl z ↦ let e : n ≡ count = omega arith in rw e (and_l _ (all_below test count) t)
      | inr g ↦ each_below test count n (and_r _ (all_below test count) t) (omega arith)
    ]

each_from : (test : ℕ → Bool) (least count n : ℕ) → T (all_below (λ m. test (least + m)) count) → least ≤ n → n < least + count → T (test n)
each_from test least count n t a b =
    let e : least + (n - least) ≡ n = omega arith in
    let P : ℕ → Type 0 = λ m. T (test m) in
    subst P e (each_below (λ m. test (least + m)) count (n - least) t (omega arith))

both : (a b c d : ℕ) → T (eqb a b && eqb c d) → (a ≡ b) × (c ≡ d)
both a b c d t = (eqb→eq a b (and_l (eqb a b) (eqb c d) t), eqb→eq c d (and_r (eqb a b) (eqb c d) t))

-- the bytes of a number below 256 in the table
abbrev byte_at : ℕ → ℕ → ℕ
byte_at n k = get_or SMALL_NUMBERS (n * 4 + k) 0

abbrev has_one_digit : ℕ → Bool
has_one_digit n = eqb (get_or SMALL_NUMBERS (n * 4) 0) (48 + n)

abbrev has_two_digits : ℕ → Bool
has_two_digits n = eqb (get_or SMALL_NUMBERS (n * 4) 0) (48 + n / 10) && eqb (byte_at n 1) (48 + n % 10)

abbrev has_front_of_three : ℕ → Bool
has_front_of_three n = eqb (get_or SMALL_NUMBERS (n * 4) 0) (48 + n / 100) && eqb (byte_at n 1) (48 + n / 10 % 10)

abbrev has_end_of_three : ℕ → Bool
has_end_of_three n = eqb (byte_at n 2) (48 + n % 10)

abbrev pub digit_bytes : ℕ → List ℕ
digit_bytes n =
    get_or SMALL_NUMBERS (n * 4) 0 ∷ get_or SMALL_NUMBERS (n * 4 + 1) 0 ∷ get_or SMALL_NUMBERS (n * 4 + 2) 0
    ∷ get_or SMALL_NUMBERS (n * 4 + 3) 0 ∷ []

one_digit : (n : ℕ) → n < 10 → take (length (decimal n)) (digit_bytes n) ≡ decimal n
one_digit n h =
    let t = eqb→eq (get_or SMALL_NUMBERS (n * 4) 0) (48 + n) (each_below has_one_digit 10 n tt h) in
    rw (decimal_one n h, t) refl

tens : (n : ℕ) → 10 ≤ n → n < 100 → take (length (decimal n)) (digit_bytes n) ≡ decimal n
tens n a b =
    let t = both (get_or SMALL_NUMBERS (n * 4) 0) (48 + n / 10) (byte_at n 1) (48 + n % 10) (each_from has_two_digits 10 90 n tt a b) in
    rw (decimal_two n a b, t.0, t.1) refl

hundreds : (n : ℕ) → 100 ≤ n → n < 256 → take (length (decimal n)) (digit_bytes n) ≡ decimal n
hundreds n a b =
    let t =
    both (get_or SMALL_NUMBERS (n * 4) 0) (48 + n / 100) (byte_at n 1) (48 + n / 10 % 10) (each_from has_front_of_three 100 156 n tt a b) in
    let s = eqb→eq (byte_at n 2) (48 + n % 10) (each_from has_end_of_three 100 156 n tt a b) in
    rw (decimal_three n a (omega arith), t.0, t.1, s) refl

-- the text of a number below 256 stands at the front of its bytes
pub small_number : (n : ℕ) → n < 256 → take (length (decimal n)) (digit_bytes n) ≡ decimal n
small_number n h =
    elim (eq-zero-or-pos (n - 9)) [
      | inl z ↦ one_digit n (omega arith)
      | inr g ↦ elim (eq-zero-or-pos (n - 99)) [
        | inl z ↦ tens n (omega arith) (omega arith)
        | inr g' ↦ hundreds n (omega arith) h
      ]
    ]

abbrev has_count : ℕ → ℕ → Bool
has_count count n = eqb (byte_at n 3) count

-- the last byte of a number below 256 says how many digits it has
pub count_in_table : (n : ℕ) → n < 256 → get_or SMALL_NUMBERS (n * 4 + 3) 0 ≡ length (decimal n)
count_in_table n h =
    elim (eq-zero-or-pos (n - 9)) [
      | inl z ↦ let few : n < 10 = omega arith in rw (decimal_one n few) (eqb→eq (byte_at n 3) 1 (each_below (has_count 1) 10 n tt few))
      | inr g ↦ elim (eq-zero-or-pos (n - 99)) [
        | inl z ↦
            let least : 10 ≤ n = omega arith in
            let most : n < 100 = omega arith in
            rw (decimal_two n least most) (eqb→eq (byte_at n 3) 2 (each_from (has_count 2) 10 90 n tt least most))
        | inr g' ↦
            let least : 100 ≤ n = omega arith in
            rw (decimal_three n least (omega arith)) (eqb→eq (byte_at n 3) 3 (each_from (has_count 3) 100 156 n tt least h))
      ]
    ]

-- the table of the two digits of each number below 100
abbrev is_pair : ℕ → Bool
is_pair n = eqb (get_or DECIMAL_PAIRS (n * 2) 0) (48 + n / 10) && eqb (get_or DECIMAL_PAIRS (n * 2 + 1) 0) (48 + n % 10)

pub pair_in_table : (n : ℕ) → n < 100
    → get_or DECIMAL_PAIRS (n * 2) 0 ∷ get_or DECIMAL_PAIRS (n * 2 + 1) 0 ∷ [] ≡ two_digits n
pair_in_table n h =
    let t =
    both (get_or DECIMAL_PAIRS (n * 2) 0) (48 + n / 10) (get_or DECIMAL_PAIRS (n * 2 + 1) 0) (48 + n % 10) (each_below is_pair 100 n tt h) in
    rw (t.0, t.1) refl
