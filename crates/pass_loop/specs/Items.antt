-- An input that is cut into items by their lengths.
use Rattle.std.specs.Prelude.{◌≡◌, ◌≤◌, ℕ, List, None, Some, drop, length}
use Rattle.item_reader.specs.Cut.{IsCutInto}
use Rattle.item_reader.specs.Reading.{Reading, held_bytes}
use Rattle.item_reader.specs.declared.cutting.Tail as tails
use Rattle.item_reader.specs.declared.cutting.Tail.TheVariants as tail
use Rattle.pass_loop.specs.Pass.{Cutting, Tail}
use Rattle.pass_loop.specs.declared.ends.Reason.TheVariants.{Truncated, InputTooLong}

-- the most bytes that an input may have
abbrev pub limit : ℕ
limit = 4294967296

-- the refusal if the items of an input end otherwise than with its last byte
abbrev pub refusal_at : tails.Tail → Tail
refusal_at tail.End = None
refusal_at (tail.Truncated offset) = Some (Truncated, offset)
refusal_at tail.TooLong = Some (InputTooLong, limit)

-- an item after its offset, if it is read with its offset after it
abbrev pub after_offset : {Item : Type 0} → (ℕ → List ℕ → Item × ℕ) → ℕ → List ℕ → ℕ × Item
after_offset item_of at chunk = ((item_of at chunk).1, (item_of at chunk).0)

-- the bytes that are held contain, after so many of them, all of the item that begins there
abbrev pub HoldsItem : {How : Type 0} → (List ℕ → ℕ) → ℕ → Reading How → Type 0
HoldsItem asked place reader = let rest = drop place (held_bytes reader) in asked rest ≤ length rest

-- An input is cut into its items, each of as many bytes as it asks for: into all of them, or into those before the end within one,
-- or into those within the limit.
abbrev pub item_cutting : {Item : Type 0} → (List ℕ → ℕ) → (ℕ → List ℕ → Item) → Cutting Item
item_cutting asked item_of bytes items end =
    (tail : tails.Tail) × IsCutInto asked item_of limit bytes items tail × (end ≡ refusal_at tail)
