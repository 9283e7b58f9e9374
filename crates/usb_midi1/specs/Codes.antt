-- The table of codes: how many bytes an event carries (USB Device Class Definition for MIDI Devices 1.0, code
-- index numbers).
use Rattle.std.specs.Prelude.{ℕ, nat_lt, Bool, List, [], ◌∷◌, slice_index}

-- Codes 0 and 1 are reserved. 2 and 3 are system common messages of two and three bytes. 4 is an exclusive
-- that goes on, and 5 to 7 are its last one to three bytes; 5 is a common message of one byte, too. 8 to E
-- are voice messages, by their status. F is one byte.
abbrev pub carried_counts : List ℕ
carried_counts = 0 ∷ 0 ∷ 2 ∷ 3 ∷ 3 ∷ 1 ∷ 2 ∷ 3 ∷ 3 ∷ 3 ∷ 3 ∷ 3 ∷ 2 ∷ 2 ∷ 3 ∷ 1 ∷ []

abbrev pub carried_count : ℕ → ℕ
carried_count code = slice_index carried_counts code

abbrev pub is_reserved : ℕ → Bool
is_reserved code = nat_lt code 2
