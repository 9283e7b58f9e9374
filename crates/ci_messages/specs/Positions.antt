-- The parts of a message by their places, which are counted from 0.
use Rattle.std.specs.Prelude.{ℕ, ◌+◌, ◌*◌, ◌%◌, ◌/◌, List, [], ◌∷◌, ◌++◌, take, drop, slice_index}

-- the byte at a place
abbrev pub byte_at : List ℕ → ℕ → ℕ
byte_at bytes at = slice_index bytes at

-- this many bytes from a place on
abbrev pub part_at : List ℕ → ℕ → ℕ → List ℕ
part_at bytes at size = take size (drop at bytes)

-- a number of two bytes from a place on: seven bits each, the lowest first
abbrev pub number2_at : List ℕ → ℕ → ℕ
number2_at bytes at = byte_at bytes at + 128 * byte_at bytes (at + 1)

-- a number of four bytes
abbrev pub number4_at : List ℕ → ℕ → ℕ
number4_at bytes at = number2_at bytes at + 16384 * number2_at bytes (at + 2)

-- the bytes of such a number
abbrev pub bytes2 : ℕ → List ℕ
bytes2 number = number % 128 ∷ number / 128 ∷ []

abbrev pub bytes4 : ℕ → List ℕ
bytes4 number = bytes2 (number % 16384) ++ bytes2 (number / 16384)
