-- The places of the fields of a packet (M2-104-UM, Universal MIDI Packet Format and MIDI 2.0 Protocol). Bytes
-- and words are counted from 1, byte 1 being the top byte of word 1, and bits from 0.
use Rattle.std.specs.Prelude.{ℕ, ◌-◌, ◌*◌, ◌/◌, ◌%◌, ◌^◌, List, slice_index}

-- a field of a word: this many bits, from a low bit on
abbrev pub field : ℕ → ℕ → ℕ → ℕ
field word low width = word / 2 ^ low % 2 ^ width

-- word n of a packet
abbrev pub word : List ℕ → ℕ → ℕ
word words n = slice_index words (n - 1)

-- byte n of a packet
abbrev pub byte : List ℕ → ℕ → ℕ
byte words n = field (slice_index words ((n - 1) / 4)) (24 - 8 * ((n - 1) % 4)) 8

-- the message type: the high half of byte 1
abbrev pub type_of : List ℕ → ℕ
type_of words = field (word words 1) 28 4

-- the group, if the message type has one: the low half of byte 1
abbrev pub group_of : List ℕ → ℕ
group_of words = field (word words 1) 24 4

-- the high half of byte 2: the opcode of a voice message, the status of a utility message, the form of a
-- 7-bit exclusive
abbrev pub opcode_of : List ℕ → ℕ
opcode_of words = field (word words 1) 20 4

-- the low half of byte 2: the channel of a voice message
abbrev pub channel_of : List ℕ → ℕ
channel_of words = field (word words 1) 16 4

-- the low half of byte 2 in a 7-bit exclusive: how many bytes it has
abbrev pub count_of : List ℕ → ℕ
count_of words = field (word words 1) 16 4
