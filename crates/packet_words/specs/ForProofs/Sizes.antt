-- The first word of a packet tells how many bytes it has.
use Rattle.std.specs.Prelude.{◌≡◌, ℕ, ◌*◌, ◌/◌, ◌^◌, ◌≤◌, nat_lt, if◌then◌else◌, Bool}
use Rattle.std.specs.Prelude.{true, false, List, [], ◌∷◌, length, slice_index_or}
use Rattle.std.proofs.Common.{zero, suc, ap, lit≤}
use Rattle.std.proofs.lemmas.Bool.{le-ltb}
use Rattle.std.specs.List.{AllByRecursion}
use Rattle.packet_words.specs.Words.{bytes_asked, word_at, word_counts, words_asked}
use Rattle.packet_words.specs.declared.words.Order.{Order}

get_or-each : (P : ℕ → Type 0) (xs : List ℕ) (i d : ℕ) → AllByRecursion P xs → P d → P (slice_index_or xs i d)
get_or-each P [] i d each here = here
get_or-each P (x ∷ xs) zero d each here = each.0
get_or-each P (x ∷ xs) (suc i) d each here = get_or-each P xs i d each.1 here

-- so many words have four to sixteen bytes
abbrev pub IsCount : ℕ → Type 0
IsCount n = (4 ≤ 4 * n) × (4 * n ≤ 16)

one : IsCount 1
one = (lit≤ tt, lit≤ tt)

two : IsCount 2
two = (lit≤ tt, lit≤ tt)

three : IsCount 3
three = (lit≤ tt, lit≤ tt)

four : IsCount 4
four = (lit≤ tt, lit≤ tt)

pub count_in : (first : ℕ) → IsCount (words_asked first)
count_in first =
    get_or-each IsCount word_counts (first / 2 ^ 28) 4
    (one, (one, (one, (two, (two, (four, (one, (one, (two, (two, (two, (three, (three, (four, (four, (four, tt)))))))))))))))) four

module _ (order : Order) where
  abbrev size_by : List ℕ → Bool → ℕ
  size_by bytes few = if few then 4 else 4 * words_asked (word_at order bytes 0)

  by_test : (bytes : List ℕ) (few : Bool) → (4 ≤ size_by bytes few) × (size_by bytes few ≤ 16)
  by_test bytes true = (lit≤ tt, lit≤ tt)
  by_test bytes false = count_in (word_at order bytes 0)

  pub size_in : (bytes : List ℕ) → (4 ≤ bytes_asked order bytes) × (bytes_asked order bytes ≤ 16)
  size_in bytes = by_test bytes (nat_lt (length bytes) 4)

  -- with a whole word
  pub asked_by_word : (bytes : List ℕ) → 4 ≤ length bytes → bytes_asked order bytes ≡ 4 * words_asked (word_at order bytes 0)
  asked_by_word bytes enough = ap (size_by bytes) (le-ltb (length bytes) 4 enough)
