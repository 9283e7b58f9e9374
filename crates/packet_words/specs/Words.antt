-- The words of a packet, and how many bytes it has.
use Rattle.std.specs.Prelude.{◌≡◌, ℕ, ◌*◌, ◌/◌, ◌^◌, nat_lt, if◌then◌else◌, List, []}
use Rattle.std.specs.Prelude.{◌∷◌, ◌++◌, length, take, drop, slice_index, slice_index_or}
use Rattle.std.proofs.Common.{zero, suc}
use Rattle.byteorder.specs.Endian.{big_number, little_number, big_bytes, little_bytes}
use Rattle.packet_words.specs.declared.words.Order.{Order}
use Rattle.packet_words.specs.declared.words.Order.TheVariants.{Big, Little}

-- how many words a packet of each type has, the types being the top four bits of its first word
-- (Universal MIDI Packet Format and MIDI 2.0 Protocol, the table of message types)
abbrev pub word_counts : List ℕ
word_counts = 1 ∷ 1 ∷ 1 ∷ 2 ∷ 2 ∷ 4 ∷ 1 ∷ 1 ∷ 2 ∷ 2 ∷ 2 ∷ 3 ∷ 3 ∷ 4 ∷ 4 ∷ 4 ∷ []

abbrev pub words_asked : ℕ → ℕ
words_asked first = slice_index_or word_counts (first / 2 ^ 28) 4

-- the number of these four bytes
abbrev pub number_of : Order → List ℕ → ℕ
number_of Big bytes = big_number 4 bytes
number_of Little bytes = little_number 4 bytes

-- the four bytes of a word
abbrev pub word_bytes : Order → ℕ → List ℕ
word_bytes Big word = big_bytes 4 word
word_bytes Little word = little_bytes 4 word

-- the word at index i
abbrev pub word_at : Order → List ℕ → ℕ → ℕ
word_at order bytes i = number_of order (take 4 (drop (4 * i) bytes))

-- the first n words
abbrev pub first_words : Order → List ℕ → ℕ → List ℕ
first_words order bytes zero = []
first_words order bytes (suc n) = first_words order bytes n ++ word_at order bytes n ∷ []

-- all the words of the bytes
abbrev pub words_of : Order → List ℕ → List ℕ
words_of order bytes = first_words order bytes (length bytes / 4)

-- as many bytes as the type of the first word asks for; the first word itself asks for four
abbrev pub bytes_asked : Order → List ℕ → ℕ
bytes_asked order bytes = if nat_lt (length bytes) 4 then 4 else 4 * words_asked (word_at order bytes 0)

-- as many bytes as they ask for
abbrev pub IsPacket : Order → List ℕ → Type 0
IsPacket order bytes = length bytes ≡ bytes_asked order bytes

-- as many words as the first of them asks for
abbrev pub IsWhole : List ℕ → Type 0
IsWhole words = length words ≡ words_asked (slice_index words 0)
