-- A sink in memory that fails as it is told to.
use Rattle.std.specs.Prelude.{ℕ, ◌-◌, min, nat_le, Bool, true, false, if◌then◌else◌, List, [], ◌++◌, length, take, Option, None, Some}
use Rattle.midi_edge.specs.Script.{one_more, kept_at}

-- what it holds, for how many bytes it has room, which calls fail, how many bytes they keep, and its counts
pub record SinkState : Type 0 where
  pub held : List ℕ
  pub room : ℕ
  pub fails : List (ℕ × ℕ)
  pub calls : ℕ
  pub faults : ℕ

-- after a call that adds these bytes
abbrev pub with_bytes : SinkState → List ℕ → SinkState
with_bytes s bytes = record s { held = s.held ++ bytes; calls = one_more s.calls }

-- after a call that adds these bytes and fails
abbrev pub with_fault : SinkState → List ℕ → SinkState
with_fault s bytes = record s { held = s.held ++ bytes; calls = one_more s.calls; faults = one_more s.faults }

abbrev pub after_listed : SinkState → List ℕ → Option ℕ → SinkState × Bool
after_listed s piece (Some kept) = (with_fault s (take (min (min kept (length piece - 1)) (s.room - length s.held)) piece), false)
after_listed s piece None = if nat_le (length piece) (s.room - length s.held) then (with_bytes s piece, true) else (with_fault s [], false)

-- the sink after a `put` of a piece, and whether the `put` succeeds
abbrev pub after_put : SinkState → List ℕ → SinkState × Bool
after_put s piece = after_listed s piece (kept_at s.fails s.calls)
