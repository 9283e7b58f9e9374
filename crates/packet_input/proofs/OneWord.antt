-- One word that is held.
use Rattle.std.proofs.Common.{◌≡◌, ◌≤◌, ◌+◌, ◌-◌, ◌*◌, ◌/◌, ℕ, List, [], ◌∷◌, length, take, drop, Option, None, Some, ap, arith, lit≤, sym, subst, ◌∙◌}
use Rattle.std.proofs.lemmas.List.{length-drop, length-take-le, take-take}
use Rattle.std.proofs.Math.Nat.{min-le_right}
use Rattle.item_reader.specs.Reading.{allowed_by, held_bytes}
use Rattle.item_reader.specs.declared.cutting.Tail.{Tail}
use Rattle.item_reader.proofs.Next.{held_at, length-held}
use Rattle.ump_words.specs.Cut.{IsWhole, bytes_asked, first_words, framed_at, number_of, word_at, words_asked, words_of}
use Rattle.ump_words.specs.ForProofs.Lengths.{asked_by_word, packet_lengths}
use Rattle.ump_words.specs.Reader.{IsHeldAt, Reading}
use Rattle.ump_words.specs.declared.words.Framed.{Framed}
use Rattle.ump_words.specs.declared.words.Order.{Order}

-- the word of four bytes
words_of_four : (order : Order) (bytes : List ℕ) → 4 ≤ length bytes → words_of order (take 4 bytes) ≡ word_at order bytes 0 ∷ []
words_of_four order bytes enough =
    let len : length (take 4 bytes) ≡ 4 = length-take-le 4 bytes enough in
    let count : length (take 4 bytes) / 4 ≡ 1 = ap (λ n. n / 4) len in
    let first : take 4 (take 4 bytes) ≡ take 4 bytes = take-take 4 4 bytes (lit≤ tt) in
    ap (first_words order (take 4 bytes)) count ∙ ap (λ front. number_of order front ∷ []) first

allowed-room : (end : Option Tail) (held room : ℕ) → allowed_by end held room ≤ room
allowed-room None held room = min-le_right held room
allowed-room (Some tail) held room = omega arith

-- one word with an offset
abbrev pub framed_one : ℕ → ℕ → Framed
framed_one offset first = record { offset = offset; words = first ∷ [] }

-- if one word is whole, it is the packet that is held there
pub one_held : (at : ℕ) (reader : Reading) (first : ℕ) → at + 4 ≤ length (held_bytes reader)
    → first ≡ word_at reader.how (drop at (held_bytes reader)) 0 → IsWhole (first ∷ [])
    → IsHeldAt at (at + 4) reader (framed_one (reader.offset + at) first)
one_held at reader first enough is_first whole =
    let order : Order = reader.how in
    let bytes : List ℕ = drop at (held_bytes reader) in
    let rest : length bytes ≡ length (held_bytes reader) - at = length-drop at (held_bytes reader) in
    let some : 4 ≤ length bytes = omega (arith, rest, enough) in
    let room = allowed-room reader.end (length reader.pending) (reader.limit - reader.offset) in
    let within : reader.offset ≤ reader.limit = omega (arith, enough, length-held reader, room) in
    let count : 1 ≡ words_asked (word_at order bytes 0) = whole ∙ ap words_asked is_first in
    let size : 4 ≡ bytes_asked order bytes = ap (λ n. 4 * n) count ∙ sym (asked_by_word order bytes some) in
    let words : words_of order (take 4 bytes) ≡ first ∷ [] = words_of_four order bytes some ∙ ap (λ n. n ∷ []) (sym is_first) in
    let framed_by : List ℕ → Framed = λ list. record { offset = reader.offset + at; words = list } in
    let H : Framed → Type 0 = λ f. IsHeldAt at (at + 4) reader f in
    subst H (ap framed_by words)
    (held_at bytes_asked framed_at reader (packet_lengths order) within at (omega (arith, enough, length-held reader)) 4 size some)
