-- How a stream of bytes is cut into packets.
use Rattle.std.specs.Prelude.{ℕ, List}
use Rattle.item_reader.specs.Cut as cut
use Rattle.item_reader.specs.declared.cutting.Tail.{Tail}
use Rattle.packet_words.specs.declared.words.Framed.{Framed}
use Rattle.packet_words.specs.declared.words.Order.{Order}
pub use Rattle.packet_words.specs.Words.{IsPacket, IsWhole, bytes_asked, first_words, number_of, word_at, word_bytes, word_counts, words_asked, words_of}

-- too few bytes for a packet: no whole word, or fewer than its first word asks for
abbrev pub IsRest : Order → List ℕ → Type 0
IsRest order bytes = cut.IsRest (bytes_asked order) bytes

-- a packet as it is handed out
abbrev pub framed_at : Order → ℕ → List ℕ → Framed
framed_at order at chunk = record { offset = at; words = words_of order chunk }

-- The bytes of a whole stream are these packets, and then what makes the tail.
abbrev pub Cuts : Order → ℕ → List ℕ → List (List ℕ) → Tail → Type 0
Cuts order limit bytes chunks tail = cut.Cuts (bytes_asked order) limit bytes chunks tail

-- these bytes are cut into these packets, and then what makes the tail
abbrev pub IsCutInto : Order → ℕ → List ℕ → List Framed → Tail → Type 0
IsCutInto order limit bytes framed tail = cut.IsCutInto (bytes_asked order) (framed_at order) limit bytes framed tail
