-- What is at a place that is the length of what comes before it.
use Rattle.std.proofs.Common.{◌≡◌, ◌∙◌, ap, ℕ, List, ◌∷◌, ◌++◌, ◌+◌, ◌*◌, ◌/◌, ◌%◌, length, take, arith}
use Rattle.std.proofs.lemmas.List.{get_or-append-add}
use Rattle.std.proofs.Math.Seq.{take-append_seam, drop-append_seam}
use Rattle.ci_messages.specs.Positions.{byte_at, part_at, number2_at, number4_at, bytes2, bytes4}

-- the nth byte of what follows
pub byte_at-append : (before after : List ℕ) (n at : ℕ) → at ≡ length before + n →
    byte_at (before ++ after) at ≡ byte_at after n
byte_at-append before after n at is = ap (byte_at (before ++ after)) is ∙ get_or-append-add before after n 0

pub number2_at-append : (before after : List ℕ) (n at : ℕ) → at ≡ length before + n →
    number2_at (before ++ after) at ≡ number2_at after n
number2_at-append before after n at is =
    ap (λ k. k + 128 * byte_at (before ++ after) (at + 1)) (byte_at-append before after n at is)
    ∙ ap (λ k. byte_at after n + 128 * k) (byte_at-append before after (n + 1) (at + 1) (omega (arith, is)))

pub number4_at-append : (before after : List ℕ) (n at : ℕ) → at ≡ length before + n →
    number4_at (before ++ after) at ≡ number4_at after n
number4_at-append before after n at is =
    ap (λ k. k + 16384 * number2_at (before ++ after) (at + 2)) (number2_at-append before after n at is)
    ∙ ap (λ k. number2_at after n + 16384 * k) (number2_at-append before after (n + 2) (at + 2) (omega (arith, is)))

-- the bytes of a number give it
pub number2-bytes2 : (n : ℕ) → n % 128 + 128 * (n / 128) ≡ n
number2-bytes2 n = omega arith

pub number4-bytes4 : (n : ℕ) →
    (n % 16384 % 128 + 128 * (n % 16384 / 128)) + 16384 * (n / 16384 % 128 + 128 * (n / 16384 / 128)) ≡ n
number4-bytes4 n = omega arith

pub byte_at-byte : (before after : List ℕ) (n at : ℕ) → at ≡ length before → byte_at (before ++ n ∷ after) at ≡ n
byte_at-byte before after n at is = byte_at-append before (n ∷ after) 0 at (omega (arith, is))

pub number2_at-bytes2 : (before after : List ℕ) (n at : ℕ) → at ≡ length before →
    number2_at (before ++ (bytes2 n ++ after)) at ≡ n
number2_at-bytes2 before after n at is =
    number2_at-append before (bytes2 n ++ after) 0 at (omega (arith, is)) ∙ number2-bytes2 n

pub number4_at-bytes4 : (before after : List ℕ) (n at : ℕ) → at ≡ length before →
    number4_at (before ++ (bytes4 n ++ after)) at ≡ n
number4_at-bytes4 before after n at is =
    number4_at-append before (bytes4 n ++ after) 0 at (omega (arith, is)) ∙ number4-bytes4 n

pub part_at-list : (before list after : List ℕ) (at size : ℕ) → at ≡ length before → size ≡ length list →
    part_at (before ++ (list ++ after)) at size ≡ list
part_at-list before list after at size is whole =
    ap (λ k. part_at (before ++ (list ++ after)) k size) is
    ∙ ap (λ k. part_at (before ++ (list ++ after)) (length before) k) whole
    ∙ ap (take (length list)) (drop-append_seam before (list ++ after))
    ∙ take-append_seam list after
