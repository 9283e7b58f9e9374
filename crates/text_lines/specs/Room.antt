-- How many bytes the parts of a line take at most, so that all of them find room in it.
use Rattle.std.specs.Prelude.{ℕ, ◌+◌, ◌*◌, ◌≤◌, List, length}
use Rattle.text_lines.specs.declared.line.TheConstants.{CAPACITY}

-- the digits of the largest number of 64 bits
abbrev pub longest_number : ℕ
longest_number = 20

-- the digits of the largest number of 32 bits, as a value has
abbrev pub longest_value : ℕ
longest_value = 10

-- the digits of the largest number of 32 bits but the last four
abbrev pub longest_front : ℕ
longest_front = 6

-- ` attribute=`
abbrev pub longest_label : ℕ
longest_label = 11

-- a label and its value
abbrev pub longest_field : ℕ
longest_field = longest_label + longest_value

-- a word other than the kind of a message, as `misplaced-controller`, or a label with one, as `
-- kind=registered`
abbrev pub longest_word : ℕ
longest_word = 20

-- the kind of a message: `note-controller`
abbrev pub longest_kind : ℕ
longest_kind = 15

-- how many words a packet has
abbrev pub most_words : ℕ
most_words = 4

-- these words, each in eight digits with a space before it
abbrev pub longest_words : ℕ
longest_words = most_words * 9

-- what stands before the line of a packet: nothing, or the ticks of an event and a space
abbrev pub before_packet : ℕ
before_packet = longest_number + 1

-- what stands before the kind of a message: that, the offset, the words and a space
abbrev pub before_kind : ℕ
before_kind = before_packet + longest_number + longest_words + 1

-- what stands before the fields of a message
abbrev pub before_fields : ℕ
before_fields = before_kind + longest_kind

-- what stands before the fields that follow its group and its channel
abbrev pub behind_channel : ℕ
behind_channel = before_fields + 2 * longest_field

-- ---- the room that a line has left

-- a line has room for so many bytes more
abbrev pub HasRoom : ℕ → List ℕ → Type 0
HasRoom count line = length line + count ≤ CAPACITY

-- a line has room for its line feed
abbrev pub HasRoomForEnd : List ℕ → Type 0
HasRoomForEnd line = HasRoom 1 line

-- a line has at most so many bytes more than before
abbrev pub AddsAtMost : ℕ → List ℕ → List ℕ → Type 0
AddsAtMost count before after = length after ≤ length before + count
