-- What holds of an item that a reader holds.
use Rattle.std.proofs.Common.{◌≡◌, ◌+◌, ◌-◌, ◌<◌, ◌≤◌, ℕ, List, length, Option, None, Some, ap, arith}
use Rattle.std.proofs.lemmas.List.{length-take-le}
use Rattle.std.proofs.Math.Nat.{min-le_left}
use Rattle.item_reader.specs.Reading.{IsHeldAt, Reading, allowed_by, allowed_bytes, held_bytes}
use Rattle.item_reader.specs.declared.cutting.Tail.{Tail}

allowed-held : (end : Option Tail) (held room : ℕ) → allowed_by end held room ≤ held
allowed-held None held room = min-le_left held room
allowed-held (Some tail) held room = omega arith

-- as many bytes are held as may be given out
pub held-length : {How : Type 0} (reader : Reading How) → length (held_bytes reader) ≡ allowed_bytes reader
held-length reader =
    length-take-le (allowed_bytes reader) reader.pending
    (allowed-held reader.end (length reader.pending) (reader.limit - reader.offset))

-- an item that is held brings the end nearer
pub further_held : {How Item : Type 0} (asked : List ℕ → ℕ) (item_of : ℕ → List ℕ → Item) (at next : ℕ) (reader : Reading How) (item : Item)
    → IsHeldAt asked item_of at next reader item
    → (next ≤ length (held_bytes reader)) × (reader.limit - (reader.offset + next) < reader.limit - (reader.offset + at))
further_held asked item_of at next reader item held =
    let gives = held.gives None in
    let offset : reader.offset + next ≡ reader.offset + at + length gives.chunk = ap (λ r. r.offset) gives.goes_on in
    (omega (arith, held.fits, held-length reader), omega (arith, held.further, offset, gives.within))
