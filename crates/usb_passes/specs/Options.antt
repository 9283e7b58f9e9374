-- What the passes over events may be asked for.
use Rattle.std.specs.Prelude.{ℕ}

-- A stream of MIDI 1.0 bytes that is packed into the events of a cable. `room` is the most bytes that an exclusive may have between F0
-- and F7.
pub record PackOptions : Type 0 where
  pub cable : ℕ
  pub room : ℕ
