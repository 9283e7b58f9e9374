-- Two words.
use Rattle.std.proofs.Common.{◌≡◌, ◌≤◌, ◌+◌, ◌*◌, ◌/◌, ℕ, List, [], ◌∷◌, length, take, drop, ap, arith, lit≤, sym, subst, ◌∙◌}
use Rattle.std.proofs.lemmas.List.{drop-take, length-take-le, take-take}
use Rattle.item_reader.specs.Reading.{BeginsItemAt, IsHeldAt, Reading}
use Rattle.ump_words.specs.Cut.{IsWhole, bytes_asked, first_words, framed_at, number_of, word_at, words_asked, words_of}
use Rattle.ump_words.specs.Reader.{framed_pair}
use Rattle.ump_words.specs.ForProofs.Lengths.{asked_by_word}
use Rattle.packet_words.specs.declared.words.Framed.{Framed}
use Rattle.packet_words.specs.declared.words.Order.{Order}

-- the words of eight bytes
words_of_eight : (order : Order) (bytes : List ℕ) → 8 ≤ length bytes
    → words_of order (take 8 bytes) ≡ word_at order bytes 0 ∷ word_at order bytes 1 ∷ []
words_of_eight order bytes enough =
    let len : length (take 8 bytes) ≡ 8 = length-take-le 8 bytes enough in
    let count : length (take 8 bytes) / 4 ≡ 2 = ap (λ n. n / 4) len in
    let first : take 4 (take 8 bytes) ≡ take 4 bytes = take-take 4 8 bytes (lit≤ tt) in
    let second : take 4 (drop 4 (take 8 bytes)) ≡ take 4 (drop 4 bytes) =
    ap (take 4) (drop-take 4 4 bytes) ∙ take-take 4 4 (drop 4 bytes) (lit≤ tt) in
    ap (first_words order (take 8 bytes)) count
    ∙ ap (λ front. number_of order front ∷ word_at order (take 8 bytes) 1 ∷ []) first
    ∙ ap (λ behind. word_at order bytes 0 ∷ number_of order behind ∷ []) second

-- if two words are whole, they are the packet that is held there
pub pair_held : (at : ℕ) (reader : Reading Order) (bytes : List ℕ) (first second : ℕ) → 8 ≤ length bytes
    → first ≡ word_at reader.how bytes 0 → second ≡ word_at reader.how bytes 1 → IsWhole (first ∷ second ∷ [])
    → BeginsItemAt (bytes_asked reader.how) (framed_at reader.how) at reader bytes
    → IsHeldAt (bytes_asked reader.how) (framed_at reader.how) at (at + 8) reader (framed_pair (reader.offset + at) first second)
pair_held at reader bytes first second enough is_first is_second whole begins =
    let order : Order = reader.how in
    let offset : ℕ = reader.offset + at in
    let count : 2 ≡ words_asked (word_at order bytes 0) = whole ∙ ap words_asked is_first in
    let size : 8 ≡ bytes_asked order bytes = ap (λ n. 4 * n) count ∙ sym (asked_by_word order bytes (omega (arith, enough))) in
    let words : words_of order (take 8 bytes) ≡ first ∷ second ∷ [] =
    words_of_eight order bytes enough
    ∙ ap (λ n. n ∷ word_at order bytes 1 ∷ []) (sym is_first)
    ∙ ap (λ n. first ∷ n ∷ []) (sym is_second) in
    let framed_by : List ℕ → Framed = λ list. record { offset = offset; words = list } in
    let H : Framed → Type 0 = λ f. IsHeldAt (bytes_asked order) (framed_at order) at (at + 8) reader f in
    subst H (ap framed_by words) (begins 8 size enough)
