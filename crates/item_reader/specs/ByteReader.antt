-- A stream of bytes, each of which is an item.
use Rattle.std.specs.Prelude.{ℕ, List, slice_index, refl}
use Rattle.std.proofs.Common.{lit<, lit≤}
use Rattle.std.proofs.Math.Nat.{le_refl}
use Rattle.item_reader.specs.Cut.{IsLength}
use Rattle.item_reader.specs.Reading.{Reading, new_reading}
use Rattle.item_reader.specs.declared.byte_reader.EachByte.{EachByte}
use Rattle.item_reader.specs.declared.cutting.Tail.{Tail}
use Rattle.item_reader.specs.declared.cutting.Tail.TheVariants.{End, Truncated, TooLong}

-- an item is one byte
abbrev pub one_byte : List ℕ → ℕ
one_byte bytes = 1

pub byte_length : IsLength one_byte
byte_length =
    record { head = 1; some = lit< tt; least = λ bytes. le_refl 1; most = λ bytes. lit≤ tt; told = λ front more enough. refl }

-- the byte and its offset
abbrev pub byte_at : ℕ → List ℕ → ℕ × ℕ
byte_at at chunk = (slice_index chunk 0, at)

abbrev pub each_byte : EachByte
each_byte = record {}

-- a reader of bytes that has taken nothing
abbrev pub new_bytes : ℕ → Reading EachByte
new_bytes limit = new_reading each_byte limit

-- bytes never end within an item
abbrev pub IsByteTail : Tail → Type 0
IsByteTail End = Unit {0}
IsByteTail (Truncated o) = ⊥
IsByteTail TooLong = Unit {0}
