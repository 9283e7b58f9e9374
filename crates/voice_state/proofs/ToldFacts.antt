-- What is told of entries and tables is what is told of the maps that they are.
use Rattle.std.proofs.Common.{◌≡◌, ◌∙◌, ap, sym, refl, arith, ℕ, zero, suc, ◌+◌, ◌*◌, ◌/◌, ◌%◌, ◌<◌, List, []}
use Rattle.std.proofs.Common.{◌∷◌, ◌++◌, append_assoc, append-nil, add-one, Option, None, replicate, ◌==◌, ◌&&◌}
use Rattle.std.specs.List.{flat_map, range_with_len}
use Rattle.std.proofs.lemmas.Grind.{flat_map-append}
use Rattle.std.specs.Option.{option_map, option_to_list}
use Rattle.std.proofs.lemmas.Bool.Decides.{nat_tests}
use Rattle.voice_state.specs.declared.fact.Fact.{Fact}
use Rattle.voice_state.specs.Facts.{first, told_below}
use Rattle.voice_state.specs.Params.{number_of}
use Rattle.voice_state.specs.Tables.{at}

-- ---- numbers in order

from_last : (a n : ℕ) → range_with_len a (suc n) ≡ range_with_len a n ++ (a + n) ∷ []
from_last a zero = ap (λ m. m ∷ []) (omega arith)
from_last a (suc n) = ap (λ ms. a ∷ ms) (from_last (a + 1) n ∙ ap (λ m. range_with_len (a + 1) n ++ m ∷ []) (omega arith))

pub first_last : (n : ℕ) → first (suc n) ≡ first n ++ n ∷ []
unfolding first
first_last n = from_last 0 n ∙ ap (λ m. range_with_len 0 n ++ m ∷ []) (omega arith)

pub one_more : {A : Type 0} (f : ℕ → List A) (n : ℕ) → flat_map f (first (suc n)) ≡ flat_map f (first n) ++ f n
one_more f n =
    ap (flat_map f) (first_last n) ∙ flat_map-append f (first n) (n ∷ []) ∙ ap (λ ys. flat_map f (first n) ++ ys) (append-nil (f n))

pub each_below : {A : Type 0} (f g : ℕ → List A) (n : ℕ) → ((i : ℕ) → i < n → f i ≡ g i) → flat_map f (first n) ≡ flat_map g (first n)
unfolding first
each_below f g zero same = refl
each_below f g (suc n) same =
    one_more f n
    ∙ ap (λ ys. ys ++ f n) (each_below f g n (λ i below. same i (omega (arith, below))))
    ∙ ap (λ ys. flat_map g (first n) ++ ys) (same n (omega arith))
    ∙ sym (one_more g n)

pub behind : {A : Type 0} (f : ℕ → List A) (a n : ℕ)
    → flat_map f (first (a + n)) ≡ flat_map f (first a) ++ flat_map (λ i. f (a + i)) (first n)
unfolding first
behind f a zero = ap (λ m. flat_map f (first m)) (omega arith) ∙ sym (append-nil (flat_map f (first a)))
behind f a (suc n) =
    let next : a + suc n ≡ suc (a + n) = omega arith in
    let more = one_more (λ i. f (a + i)) n in
    ap (λ m. flat_map f (first m)) next ∙ one_more f (a + n) ∙ ap (λ ys. ys ++ f (a + n)) (behind f a n)
    ∙ append_assoc (flat_map f (first a)) (flat_map (λ i. f (a + i)) (first n)) (f (a + n))
    ∙ ap (λ ys. flat_map f (first a) ++ ys) (sym more)

-- by rows of 128
pub by_rows : {A : Type 0} (f : ℕ → List A) (n : ℕ)
    → flat_map (λ b. flat_map (λ i. f (b * 128 + i)) (first 128)) (first n) ≡ flat_map f (first (n * 128))
unfolding first
by_rows f zero = refl
by_rows f (suc n) =
    one_more (λ b. flat_map (λ i. f (b * 128 + i)) (first 128)) n
    ∙ ap (λ ys. ys ++ flat_map (λ i. f (n * 128 + i)) (first 128)) (by_rows f n)
    ∙ sym (behind f (n * 128) 128)
    ∙ ap (λ m. flat_map f (first m)) (omega arith)

-- ---- a table

pub told_last : (fact_of : ℕ → ℕ → Fact) (values : ℕ → Option ℕ) (n : ℕ)
    → told_below (n + 1) fact_of values ≡ told_below n fact_of values ++ option_to_list (option_map (fact_of n) (values n))
told_last fact_of values n =
    ap (λ m. told_below m fact_of values) (add-one n) ∙ one_more (λ index. option_to_list (option_map (fact_of index) (values index))) n

pub told_same : (fact_of : ℕ → ℕ → Fact) (these those : ℕ → Option ℕ) (n : ℕ) → ((index : ℕ) → these index ≡ those index)
    → told_below n fact_of these ≡ told_below n fact_of those
told_same fact_of these those n same =
    each_below (λ i. option_to_list (option_map (fact_of i) (these i))) (λ i. option_to_list (option_map (fact_of i) (those i))) n
    (λ i below. ap (λ o. option_to_list (option_map (fact_of i) o)) (same i))

-- ---- a parameter's number

pub number_in : (bank index : ℕ) → index < 128 → (number_of bank index / 128 ≡ bank) × (number_of bank index % 128 ≡ index)
number_in bank index below = (omega (arith, below), omega (arith, below))

pub same_number : (bank index number : ℕ) → index < 128
    → ((number / 128 == bank) && (number % 128 == index)) ≡ (number == number_of bank index)
same_number bank index number below = grind (arith, nat_tests)

pub none_at : (size index : ℕ) → at (replicate size None) index ≡ None
none_at zero index = refl
none_at (suc size) zero = refl
none_at (suc size) (suc index) = none_at size index

-- ---- the first number

pub none_first : {A : Type 0} (f : ℕ → List A) → flat_map f (first 0) ≡ []
unfolding first
none_first f = refl

pub more : {A : Type 0} (f : ℕ → List A) (n : ℕ) → flat_map f (first (n + 1)) ≡ flat_map f (first n) ++ f n
more f n = ap (λ m. flat_map f (first m)) (add-one n) ∙ one_more f n

-- ---- facts that are added one after the other

pub added : {A : Type 0} (before so_far new told next : List A) → so_far ≡ before ++ told → new ≡ so_far ++ next
    → new ≡ before ++ (told ++ next)
added before so_far new told next is_so_far is_new = is_new ∙ ap (λ ys. ys ++ next) is_so_far ∙ append_assoc before told next
