-- Words of one packet.
use Rattle.std.specs.Prelude.{ℕ, ◌==◌, Bool, false, List, [], ◌∷◌, length}
use Rattle.packet_words.specs.Words.{words_asked}

-- whether the number of words is that of the first one's message type (M2-104-UM, message types)
abbrev pub is_whole : List ℕ → Bool
is_whole [] = false
is_whole (first ∷ rest) = words_asked first == length (first ∷ rest)
