-- Lanes in memory that fail as they are told to.
use Rattle.std.specs.Prelude.{ℕ, ◌+◌, ◌-◌, min, nat_le, nat_lt, ◌&&◌, Bool, true, false}
use Rattle.std.specs.Prelude.{if◌then◌else◌, List, [], ◌∷◌, ◌++◌, length, take, Option, None, Some}
use Rattle.outside.specs.Outside.{kept_bytes}
use Rattle.midi_edge.specs.Script.{one_more, kept_at}

-- what was put, how many bytes that is, for how many bytes and pieces there is
-- room, which puts fail and how many bytes they keep, and the counts
pub record LanesState : Type 0 where
  pub begun : Bool
  pub folder : Option (List ℕ)
  pub pieces : List (ℕ × List ℕ)
  pub size : ℕ
  pub room : ℕ
  pub most : ℕ
  pub fails : List (ℕ × ℕ)
  pub calls : ℕ
  pub faults : ℕ

-- with one more piece, after a put that succeeds
abbrev pub with_piece : LanesState → ℕ → List ℕ → LanesState
with_piece s lane piece = record s { pieces = s.pieces ++ (lane, piece) ∷ []; size = s.size + length piece; calls = one_more s.calls }

abbrev pub with_fault : LanesState → LanesState
with_fault s = record s { calls = one_more s.calls; faults = one_more s.faults }

abbrev pub with_part : LanesState → ℕ → List ℕ → LanesState
with_part s lane part =
    record s { pieces = s.pieces ++ (lane, part) ∷ []; size = s.size + length part; calls = one_more s.calls; faults = one_more s.faults }

abbrev pub has_entry : LanesState → Bool
has_entry s = nat_lt (length s.pieces) s.most

abbrev pub after_listed : LanesState → ℕ → List ℕ → Option ℕ → LanesState × Bool
after_listed s lane piece (Some kept) =
    let count = min (min kept (length piece - 1)) (s.room - s.size) in
    (if nat_lt 0 count && has_entry s then with_part s lane (take count piece) else with_fault s, false)
after_listed s lane piece None =
    if nat_le (length piece) (s.room - s.size) && has_entry s then (with_piece s lane piece, true) else (with_fault s, false)

-- the lanes after a `put`, and whether the `put` succeeds
abbrev pub after_put : LanesState → ℕ → List ℕ → LanesState × Bool
after_put s lane piece = after_listed s lane piece (kept_at s.fails s.calls)

-- the lanes after `begin`, which never fails
abbrev pub after_begin : LanesState → List ℕ → LanesState
after_begin s folder = record s { begun = true; folder = Some (kept_bytes folder) }
