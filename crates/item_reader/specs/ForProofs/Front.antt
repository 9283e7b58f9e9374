-- What is at the front of some bytes.
use Rattle.std.specs.Prelude.{◌≡◌, ℕ, ◌≤◌, ◌<◌, List, length, take}
use Rattle.item_reader.specs.Cut.{IsRest}
use Rattle.item_reader.specs.declared.reader.Front.{Front}
use Rattle.item_reader.specs.declared.reader.Front.TheVariants.{Item, TooLong, Partial}

abbrev pub Sees : (List ℕ → ℕ) → List ℕ → ℕ → Front → Type 0
Sees asked bytes room (Item n) = (n ≡ asked bytes) × (n ≤ length bytes) × (n ≤ room)
Sees asked bytes room TooLong = (room < length bytes) × IsRest asked (take room bytes)
Sees asked bytes room Partial = (length bytes ≤ room) × IsRest asked bytes × (length bytes < 16)
