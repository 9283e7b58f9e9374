-- What the keys of a table hold is within the ranges of their rules.
use Rattle.std.proofs.Common.{Bool, ℕ, ◌≡◌, ◌<◌, ◌≤◌, ◌∙◌, ◌&&◌, true, false, ap, refl, subst, List, [], ◌∷◌, length, arith}
use Rattle.std.proofs.Common.{nat_le, ◌+◌, eqb, Option, Some, None, option_and_then, option_map}
use Rattle.std.specs.Prelude.{ℤ, pos, negsuc, if◌then◌else◌, unwrap_or}
use Rattle.std.specs.List.{All}
use Rattle.std.specs.Str.{IsUtf8, is_utf8}
use Rattle.std.proofs.lemmas.Bool.{eqb-true, le-leb, leb-true}
use Rattle.std.proofs.lemmas.List.Elements.{All-cons, All-nil}
use Rattle.std.proofs.lemmas.Str.{IsUtf8-from_is_utf8, is_utf8-from_IsUtf8}
use Rattle.toml.specs.Data.{Data, Items, no_items, item, Members, as_integer, get_member}
use Rattle.function_blocks.specs.Keys.{array_at, count_items, exactly, at_most, limited, limited_text_at, number_at, number_in}
use Rattle.function_blocks.specs.Keys.{numbers_at, numbers_in, short_numbers_at, text_at, within}

-- ---- tests and options

pub left : (a b : Bool) → (a && b) ≡ true → a ≡ true
left true b is = refl
left false b is = is

pub right : (a b : Bool) → (a && b) ≡ true → b ≡ true
right true b is = is
right false b is = absurd (let e : false ≡ true = is in cc)

pub same_some : {A : Type 0} (x y : A) → Some x ≡ Some y → x ≡ y
same_some x y is = ap (λ o. unwrap_or o x) is

pub tested : {A : Type 0} (test : Bool) (x y : A) → (if test then Some x else None) ≡ Some y → (test ≡ true) × (x ≡ y)
tested true x y is = (refl, same_some x y is)
tested false x y is = absurd (let e : None ≡ Some y = is in cc)

chosen : {A : Type 0} (test : Bool) (o : Option A) (y : A) → (if test then o else None) ≡ Some y → (test ≡ true) × (o ≡ Some y)
chosen true o y is = (refl, is)
chosen false o y is = absurd (let e : None ≡ Some y = is in cc)

pub some_in : {A B : Type 0} (next : A → Option B) (o : Option A) (y : B) → option_and_then next o ≡ Some y
    → (x : A) × (o ≡ Some x) × (next x ≡ Some y)
some_in next (Some x) y is = (x, refl, is)
some_in next None y is = absurd (let e : None ≡ Some y = is in cc)

mapped : {A B : Type 0} (f : A → B) (o : Option A) (y : B) → option_map f o ≡ Some y → (x : A) × (o ≡ Some x) × (f x ≡ y)
mapped f (Some x) y is = (x, refl, same_some (f x) y is)
mapped f None y is = absurd (let e : None ≡ Some y = is in cc)

-- ---- a text

abbrev pub IsLimited : ℕ → List ℕ → Type 0
IsLimited most text = ((0 < length text) × (length text ≤ most)) × IsUtf8 text

limited-fits : (most : ℕ) (text x : List ℕ) → limited most text ≡ Some x → IsLimited most x
limited-fits most text x is =
    let some : Bool = nat_le 1 (length text) in
    let few : Bool = nat_le (length text) most in
    let test = tested ((some && few) && is_utf8 text) text x is in
    let sizes : (some && few) ≡ true = left (some && few) (is_utf8 text) test.0 in
    subst (IsLimited most) test.1 (
      (leb-true 1 (length text) (left some few sizes), leb-true (length text) most (right some few sizes)),
      IsUtf8-from_is_utf8 text (right (some && few) (is_utf8 text) test.0),
    )

-- a text of UTF-8 that is there and short enough is limited
pub limited_itself : (most : ℕ) (text : List ℕ) → IsUtf8 text → 1 ≤ length text → length text ≤ most → limited most text ≡ Some text
limited_itself most text utf8 some few =
    rw (le-leb 1 (length text) some, le-leb (length text) most few, is_utf8-from_IsUtf8 text utf8) refl

pub text-fits : (most : ℕ) (key : List ℕ) (members : Members) (x : List ℕ) → limited_text_at most key members ≡ Some x
    → IsLimited most x
text-fits most key members x is =
    let text = some_in (limited most) (text_at key members) x is in
    limited-fits most text.0 x text.2

-- ---- a number

within-fits : (least most : ℕ) (z : ℤ) (n : ℕ) → within least most z ≡ Some n → (least ≤ n) × (n ≤ most)
within-fits least most (pos m) n is =
    let test = tested (nat_le least m && nat_le m most) m n is in
    subst (λ k. (least ≤ k) × (k ≤ most)) test.1
    (leb-true least m (left (nat_le least m) (nat_le m most) test.0), leb-true m most (right (nat_le least m) (nat_le m most) test.0))
within-fits least most (negsuc m) n is = absurd (let e : None ≡ Some n = is in cc)

value-fits : (least most : ℕ) (value : Data) (n : ℕ) → number_in least most value ≡ Some n → (least ≤ n) × (n ≤ most)
value-fits least most value n is =
    let z = some_in (within least most) (as_integer value) n is in
    within-fits least most z.0 n z.2

pub number-fits : (least most : ℕ) (key : List ℕ) (members : Members) (n : ℕ) → number_at least most key members ≡ Some n
    → (least ≤ n) × (n ≤ most)
number-fits least most key members n is =
    let value = some_in (number_in least most) (get_member key members) n is in
    value-fits least most value.0 n value.2

-- ---- a list of numbers

items-fit : (most : ℕ) (values : Items) (ns : List ℕ) → numbers_in most values ≡ Some ns
    → (length ns ≡ count_items values) × All (λ n. n ≤ most) ns
items-fit most no_items ns is =
    subst (λ ms. (length ms ≡ 0) × All (λ n. n ≤ most) ms) (same_some [] ns is) (refl, All-nil (λ n. n ≤ most))
items-fit most (item value values) ns is =
    let first = some_in (λ n. option_map (λ ms. n ∷ ms) (numbers_in most values)) (number_in 0 most value) ns is in
    let rest = mapped (λ ms. first.0 ∷ ms) (numbers_in most values) ns first.2 in
    let fit = items-fit most values rest.0 rest.1 in
    let fits : first.0 ≤ most = (value-fits 0 most value first.0 first.1).1 in
    let count : length (first.0 ∷ rest.0) ≡ count_items values + 1 = omega (arith, fit.0) in
    subst (λ ms. (length ms ≡ count_items values + 1) × All (λ n. n ≤ most) ms) rest.2
    (count, All-cons (λ n. n ≤ most) first.0 rest.0 fits fit.1)

pub numbers-fit : (count most : ℕ) (key : List ℕ) (members : Members) (ns : List ℕ) → numbers_at count most key members ≡ Some ns
    → (length ns ≡ count) × All (λ n. n ≤ most) ns
numbers-fit count most key members ns is =
    let values = some_in (exactly count most) (array_at key members) ns is in
    let test = chosen (eqb (count_items values.0) count) (numbers_in most values.0) ns values.2 in
    let fit = items-fit most values.0 ns test.1 in
    (fit.0 ∙ eqb-true (count_items values.0) count test.0, fit.1)

pub short-fit : (count most : ℕ) (key : List ℕ) (members : Members) (ns : List ℕ)
    → short_numbers_at count most key members ≡ Some ns → (length ns ≤ count) × All (λ n. n ≤ most) ns
short-fit count most key members ns is =
    let values = some_in (at_most count most) (array_at key members) ns is in
    let test = chosen (nat_le (count_items values.0) count) (numbers_in most values.0) ns values.2 in
    let fit = items-fit most values.0 ns test.1 in
    let few : count_items values.0 ≤ count = leb-true (count_items values.0) count test.0 in
    (omega (arith, few, fit.0), fit.1)
