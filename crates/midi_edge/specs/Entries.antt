-- The pieces of lanes, kept one after the other in one buffer.
use Rattle.std.specs.Prelude.{ℕ, ◌≤◌, List, All, map, slice_range}
use Rattle.midi_edge.specs.declared.mem_lanes.Entry.{Entry}

-- each entry is a part of so many bytes
abbrev pub AreWithin : ℕ → List Entry → Type 0
AreWithin size entries = All (λ entry. (entry.start ≤ entry.end) × (entry.end ≤ size)) entries

-- the lane and the bytes of an entry
abbrev pub piece_in : List ℕ → Entry → ℕ × List ℕ
piece_in bytes entry = (entry.lane, slice_range bytes entry.start entry.end)

abbrev pub pieces_in : List ℕ → List Entry → List (ℕ × List ℕ)
pieces_in bytes entries = map (piece_in bytes) entries
