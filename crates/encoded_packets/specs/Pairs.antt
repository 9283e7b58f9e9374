-- Words that are a whole packet in which each byte that carries seven bits is below 128 (M2-104-UM), as far
-- as a few of their bytes show it.
use Rattle.std.specs.Prelude.{◌==◌, ◌&&◌, ◌||◌, nat_le, nat_lt, not, ℕ, Bool, List, slice_index}
use Rattle.ump_grammar.specs.WordFields.{byte, field, opcode_of, type_of}
use Rattle.encoded_packets.specs.DirectMessages.{is_direct_opcode}
use Rattle.encoded_packets.specs.Parts.{is_low_part}

-- a direct message whose byte 3 is below 128
abbrev pub is_low_direct : List ℕ → Bool
is_low_direct words = type_of words == 4 && is_direct_opcode (opcode_of words) && nat_lt (byte words 3) 128

-- the first word of a voice message of MIDI 2.0, other than a program change, of which bytes 3 and 4 are
-- below 128
abbrev pub begins_low_voice2 : ℕ → Bool
begins_low_voice2 first =
    field first 28 4 == 4 && not (field first 20 4 == 0xC) && nat_lt (field first 8 8) 128 && nat_lt (field first 0 8) 128

-- two words of a direct message, of another such voice message, or of a 7-bit exclusive in which no byte is
-- high, counted or not
abbrev pub is_low_pair : List ℕ → Bool
is_low_pair words = is_low_direct words || is_low_part words || begins_low_voice2 (slice_index words 0)

-- the word of a channel voice message of MIDI 1.0 whose bytes 3 and 4 are below 128
abbrev pub is_low_voice1 : List ℕ → Bool
is_low_voice1 words =
    type_of words == 2 && nat_le 0x8 (opcode_of words) && nat_le (opcode_of words) 0xE && nat_lt (byte words 3) 128
    && nat_lt (byte words 4) 128
