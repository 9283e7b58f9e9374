-- Why words are refused (M2-104-UM, Universal MIDI Packet Format and MIDI 2.0 Protocol).
use Rattle.std.specs.Prelude.{ℕ, ◌==◌, nat_le, nat_lt, Bool, ◌&&◌, ◌||◌, if◌then◌else◌, List, [], ◌∷◌, take, Option, None, Some}
use Rattle.std.specs.List.{list_any}
use Rattle.ump_grammar.specs.declared.packet.Bad.{Bad}
use Rattle.ump_grammar.specs.declared.packet.Bad.TheVariants.{BadCount, HighBit}
use Rattle.ump_grammar.specs.WordFields.{field, word, byte, type_of, opcode_of, count_of}
use Rattle.ump_grammar.specs.Spelling.{exclusive_places}

-- The marked bytes carry seven bits. First those of a system common message, by its status byte.
abbrev pub marked_in_system : List ℕ → List ℕ
marked_in_system words =
    if byte words 2 == 0xF1 then byte words 3 ∷ []
    else if byte words 2 == 0xF2 then byte words 3 ∷ byte words 4 ∷ []
    else if byte words 2 == 0xF3 then byte words 3 ∷ []
    else []

-- a voice message of the MIDI 1.0 protocol, by its opcode: all data bytes
abbrev pub marked_in_voice1 : List ℕ → List ℕ
marked_in_voice1 words =
    if opcode_of words == 0xC || opcode_of words == 0xD then byte words 3 ∷ []
    else if nat_le 0x8 (opcode_of words) && nat_le (opcode_of words) 0xE then byte words 3 ∷ byte words 4 ∷ []
    else []

-- a 7-bit exclusive: as many bytes as it counts
abbrev pub marked_in_exclusive : List ℕ → List ℕ
marked_in_exclusive words = if nat_le (opcode_of words) 3 then take (count_of words) (exclusive_places words) else []

-- the bank of a program, if it is there
abbrev pub marked_in_bank : List ℕ → List ℕ
marked_in_bank words = if field (word words 1) 0 1 == 1 then byte words 7 ∷ byte words 8 ∷ [] else []

-- a voice message of the MIDI 2.0 protocol, by its opcode
abbrev pub marked_in_voice2 : List ℕ → List ℕ
marked_in_voice2 words =
    if opcode_of words == 0x7 || opcode_of words == 0xD || opcode_of words == 0xE then []
    else if opcode_of words == 0xC then byte words 5 ∷ marked_in_bank words
    else if nat_le 0x2 (opcode_of words) && nat_le (opcode_of words) 0x5 then byte words 3 ∷ byte words 4 ∷ []
    else byte words 3 ∷ []

abbrev pub marked : List ℕ → List ℕ
marked words =
    if type_of words == 0x1 then marked_in_system words
    else if type_of words == 0x2 then marked_in_voice1 words
    else if type_of words == 0x3 then marked_in_exclusive words
    else if type_of words == 0x4 then marked_in_voice2 words
    else []

-- some byte is 128 or more
abbrev pub has_high : List ℕ → Bool
has_high bytes = list_any (λ b. nat_le 128 b) bytes

-- a 7-bit exclusive counts more bytes than it has places for
abbrev pub has_bad_count : List ℕ → Bool
has_bad_count words = type_of words == 0x3 && nat_le (opcode_of words) 3 && nat_lt 6 (count_of words)

-- the reason to refuse these words
abbrev pub reason : List ℕ → Option Bad
reason words = if has_bad_count words then Some BadCount else if has_high (marked words) then Some HighBit else None
