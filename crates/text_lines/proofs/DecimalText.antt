-- The text of a number, from that of its front and its last digits.
use Rattle.std.proofs.Common.{◌≡◌, ℕ, ◌+◌, ◌/◌, ◌%◌, ◌^◌, ◌<◌, ◌≤◌, List, [], ◌∷◌, ◌++◌, length, ap, sym, ◌∙◌, arith, append_assoc}
use Rattle.std.specs.Fmt.{decimal}
use Rattle.std.proofs.lemmas.Fmt.{decimal_digit, decimal_step, length-decimal-le}
use Rattle.text_lines.specs.ForProofs.Digits.{two_digits}

pub decimal_one : (n : ℕ) → n < 10 → decimal n ≡ (48 + n) ∷ []
decimal_one n few = decimal_digit n few

pub decimal_two : (n : ℕ) → 10 ≤ n → n < 100 → decimal n ≡ (48 + n / 10) ∷ (48 + n % 10) ∷ []
decimal_two n least most = rw (decimal_step n least (omega arith), decimal_digit (n / 10) (omega arith))

pub decimal_three : (n : ℕ) → 100 ≤ n → n < 1000 → decimal n ≡ (48 + n / 100) ∷ (48 + n / 10 % 10) ∷ (48 + n % 10) ∷ []
decimal_three n least most =
    let front : n / 10 / 10 ≡ n / 100 = omega arith in
    rw (decimal_step n (omega arith) (omega arith), decimal_two (n / 10) (omega arith) (omega arith), front)

-- ---- how many digits a number has at most

pub two_long : (n : ℕ) → n < 100 → length (decimal n) ≤ 2
two_long n few = length-decimal-le 2 n (omega arith) (omega arith) (omega arith)

pub three_digits : (n : ℕ) → n < 256 → length (decimal n) ≤ 3
three_digits n few = length-decimal-le 3 n (omega arith) (omega arith) (omega arith)

pub four_digits : (n : ℕ) → n < 10000 → length (decimal n) ≤ 4
four_digits n few = length-decimal-le 4 n (omega arith) (omega arith) (omega arith)

pub six_digits : (n : ℕ) → n < 1000000 → length (decimal n) ≤ 6
six_digits n few = length-decimal-le 6 n (omega arith) (omega arith) (omega arith)

pub ten_digits : (n : ℕ) → n < 2 ^ 32 → length (decimal n) ≤ 10
ten_digits n few = length-decimal-le 10 n (omega arith) (omega arith) (omega arith)

-- ---- the last digits at once

pub decimal_pair : (n : ℕ) → 100 ≤ n → n < 2 ^ 64 → decimal n ≡ decimal (n / 100) ++ two_digits (n % 100)
decimal_pair n least most =
    let front : n / 10 / 10 ≡ n / 100 = omega arith in
    let tens : n / 10 % 10 ≡ n % 100 / 10 = omega arith in
    let ones : n % 10 ≡ n % 100 % 10 = omega arith in
    decimal_step n (omega arith) most
    ∙ ap (λ l. l ++ (48 + n % 10) ∷ []) (decimal_step (n / 10) (omega arith) (omega arith))
    ∙ append_assoc (decimal (n / 10 / 10)) ((48 + n / 10 % 10) ∷ []) ((48 + n % 10) ∷ [])
    ∙ ap (λ m. decimal m ++ (48 + n / 10 % 10) ∷ (48 + n % 10) ∷ []) front
    ∙ ap (λ m. decimal (n / 100) ++ (48 + m) ∷ (48 + n % 10) ∷ []) tens
    ∙ ap (λ m. decimal (n / 100) ++ (48 + n % 100 / 10) ∷ (48 + m) ∷ []) ones

pub decimal_four : (n : ℕ) → 10000 ≤ n → n < 2 ^ 64
    → decimal n ≡ decimal (n / 10000) ++ (two_digits (n % 10000 / 100) ++ two_digits (n % 10000 % 100))
decimal_four n least most =
    let front : n / 100 / 100 ≡ n / 10000 = omega arith in
    let hundreds : n / 100 % 100 ≡ n % 10000 / 100 = omega arith in
    let ones : n % 100 ≡ n % 10000 % 100 = omega arith in
    decimal_pair n (omega arith) most
    ∙ ap (λ l. l ++ two_digits (n % 100)) (decimal_pair (n / 100) (omega arith) (omega arith))
    ∙ append_assoc (decimal (n / 100 / 100)) (two_digits (n / 100 % 100)) (two_digits (n % 100))
    ∙ ap (λ m. decimal m ++ (two_digits (n / 100 % 100) ++ two_digits (n % 100))) front
    ∙ ap (λ m. decimal (n / 10000) ++ (two_digits m ++ two_digits (n % 100))) hundreds
    ∙ ap (λ m. decimal (n / 10000) ++ (two_digits (n % 10000 / 100) ++ two_digits m)) ones

-- ---- digits after a line

pub pair_behind : (n : ℕ) (line : List ℕ) → 100 ≤ n → n < 2 ^ 64 → (line ++ decimal (n / 100)) ++ two_digits (n % 100) ≡ line ++ decimal n
pair_behind n line least most =
    append_assoc line (decimal (n / 100)) (two_digits (n % 100)) ∙ ap (λ l. line ++ l) (sym (decimal_pair n least most))

pub four_behind : (n : ℕ) (line : List ℕ) → 10000 ≤ n → n < 2 ^ 64
    → ((line ++ decimal (n / 10000)) ++ two_digits (n % 10000 / 100)) ++ two_digits (n % 10000 % 100) ≡ line ++ decimal n
four_behind n line least most =
    let first : List ℕ = two_digits (n % 10000 / 100) in
    let second : List ℕ = two_digits (n % 10000 % 100) in
    append_assoc (line ++ decimal (n / 10000)) first second
    ∙ append_assoc line (decimal (n / 10000)) (first ++ second)
    ∙ ap (λ l. line ++ l) (sym (decimal_four n least most))
