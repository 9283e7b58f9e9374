-- The parts of 8-bit exclusives in the words of type 5 packets (M2-104-UM, system exclusive 8-bit messages). Bytes are
-- counted from 1: the high half of byte 2 is the form, its low half a count, byte 3 the stream id, and bytes 4 to 16
-- may hold data.
use Rattle.std.specs.Prelude.{◌≡◌, ℕ, ◌-◌, ◌==◌, nat_lt, Bool, true, false, ◌||◌, List, [], ◌∷◌, take, Option, MatchOption}
use Rattle.ump_grammar.specs.WordFields.{byte, group_of, opcode_of, count_of}
use Rattle.ump_grammar.specs.Spelling.{form_number}
use Rattle.sysex8_streams.specs.declared.part8.Part8.{Part8}

-- the thirteen places for data
abbrev pub data_places : List ℕ → List ℕ
data_places words =
    byte words 4 ∷ byte words 5 ∷ byte words 6 ∷ byte words 7 ∷ byte words 8 ∷ byte words 9 ∷ byte words 10
    ∷ byte words 11 ∷ byte words 12 ∷ byte words 13 ∷ byte words 14 ∷ byte words 15 ∷ byte words 16 ∷ []

-- Whether the words have no part of an exclusive: the form is one of mixed data or reserved, or the count, which
-- includes the stream id, is 0 or 15.
abbrev pub is_left_out : List ℕ → Bool
is_left_out words = nat_lt 3 (opcode_of words) || count_of words == 0 || count_of words == 15

-- the words spell this part
pub record Spells8 (part : Part8) (words : List ℕ) : Type 0 where
  pub group : part.group ≡ group_of words
  pub form : form_number part.form ≡ opcode_of words
  pub stream : part.stream ≡ byte words 3
  pub bytes : part.bytes ≡ take (count_of words - 1) (data_places words)

-- the part that the words spell, and none exactly if they are left out
abbrev pub Reads8 : List ℕ → Option Part8 → Type 0
Reads8 words result = MatchOption result (is_left_out words ≡ true) (λ part. (is_left_out words ≡ false) × Spells8 part words)
