-- How many words a packet has.
use Rattle.std.proofs.Common.{◌≡◌, ◌<◌, ◌≤◌, ℕ, zero, suc, List, [], ◌∷◌, get_or, length, ap, refl, ◌∙◌, sym, arith, ◌/◌, ◌*◌}
use Rattle.packet_words.specs.Words.{words_asked, word_at, first_words, words_of, IsPacket, IsWhole}
use Rattle.packet_words.specs.ForProofs.Sizes.{asked_by_word, count_in, size_in}
use Rattle.std.proofs.lemmas.List.{length_push, get_or_append_left}
use Rattle.packet_words.specs.declared.words.Order.{Order}

-- from one word to four
pub words_asked_in : (first : ℕ) → (0 < words_asked first) × (words_asked first ≤ 4)
words_asked_in first = let size = count_in first in (omega arith, omega arith)

-- a packet has as many words as its first word asks for
pub packet_words : (order : Order) (bytes : List ℕ) → IsPacket order bytes → length bytes ≡ 4 * words_asked (word_at order bytes 0)
packet_words order bytes packet =
    let enough : 4 ≤ length bytes = omega (arith, packet, (size_in order bytes).0) in
    packet ∙ asked_by_word order bytes enough

-- from one to four
pub packet_count : (order : Order) (bytes : List ℕ) → IsPacket order bytes → (0 < length bytes / 4) × (length bytes / 4 ≤ 4)
packet_count order bytes packet = let size = size_in order bytes in (omega (arith, packet, size.0), omega (arith, packet, size.1))

length-first_words : (order : Order) (bytes : List ℕ) (n : ℕ) → length (first_words order bytes n) ≡ n
length-first_words order bytes zero = refl
length-first_words order bytes (suc n) =
    omega (arith, length_push (first_words order bytes n) (word_at order bytes n), length-first_words order bytes n)

get_or-first_words : (order : Order) (bytes : List ℕ) (n : ℕ) → get_or (first_words order bytes (suc n)) 0 0 ≡ word_at order bytes 0
get_or-first_words order bytes zero = refl
get_or-first_words order bytes (suc n) =
    get_or_append_left (first_words order bytes (suc n)) (word_at order bytes (suc n) ∷ []) 0 0
    (omega (arith, length-first_words order bytes (suc n)))
    ∙ get_or-first_words order bytes n

whole-by_count : (order : Order) (bytes : List ℕ) (n : ℕ) → 0 < n → n ≡ words_asked (word_at order bytes 0)
    → IsWhole (first_words order bytes n)
whole-by_count order bytes zero some e = absurd (omega arith)
whole-by_count order bytes (suc n) some e =
    length-first_words order bytes (suc n) ∙ e ∙ ap words_asked (sym (get_or-first_words order bytes n))

-- the words of a packet are as many as the first of them asks for
pub IsWhole-words_of : (order : Order) (bytes : List ℕ) → IsPacket order bytes → IsWhole (words_of order bytes)
IsWhole-words_of order bytes packet =
    let asked = words_asked_in (word_at order bytes 0) in
    let words = packet_words order bytes packet in
    whole-by_count order bytes (length bytes / 4) (omega arith) (omega arith)
