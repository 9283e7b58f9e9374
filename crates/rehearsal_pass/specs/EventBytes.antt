-- A stream of the events of a rehearsal. Each has three bytes: its kind, and its number with the high byte
-- first (own rule).
use Rattle.std.specs.Prelude.{ℕ, ◌+◌, ◌*◌, List, slice_index, refl}
use Rattle.std.proofs.Common.{lit<, lit≤}
use Rattle.std.proofs.Math.Nat.{le_refl}
use Rattle.item_reader.specs.Cut.{IsLength}
use Rattle.rehearsal_pass.specs.declared.event.CalledEvent.{CalledEvent}
use Rattle.rehearsal_pass.specs.declared.event.EachEvent.{EachEvent}

-- an item is three bytes
abbrev pub three_bytes : List ℕ → ℕ
three_bytes bytes = 3

pub event_length : IsLength three_bytes
event_length =
    record { head = 3; some = lit< tt; least = λ bytes. le_refl 3; most = λ bytes. lit≤ tt; told = λ front more enough. refl }

-- the event of three bytes
abbrev pub called_of : List ℕ → CalledEvent
called_of chunk =
    record { kind = slice_index chunk 0; number = 256 * slice_index chunk 1 + slice_index chunk 2 }

-- the event and its offset
abbrev pub event_at : ℕ → List ℕ → CalledEvent × ℕ
event_at at chunk = (called_of chunk, at)

abbrev pub each_event : EachEvent
each_event = record {}
