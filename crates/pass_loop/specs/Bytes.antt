-- A stream of bytes, cut into its bytes.
use Rattle.std.specs.Prelude.{ℕ, List, map, slice_index}
use Rattle.item_reader.specs.ByteReader.{each_byte, one_byte}
use Rattle.item_reader.specs.Reading.{Reading}
use Rattle.item_reader.specs.SoFar.{Given, ReadSoFar}
use Rattle.item_reader.specs.declared.byte_reader.EachByte.{EachByte}
use Rattle.pass_loop.specs.Items.{item_cutting}
use Rattle.pass_loop.specs.Pass.{Cutting}
pub use Rattle.pass_loop.specs.Items.{limit}

-- a byte after its offset
abbrev pub placed_at : ℕ → List ℕ → ℕ × ℕ
placed_at at chunk = (at, slice_index chunk 0)

abbrev pub bytes_read : List (ℕ × ℕ) → List ℕ
bytes_read items = map (λ item. item.1) items

-- A stream is cut into its bytes: into all of them if they are within the limit, and else into those within it, and then it is
-- too long.
abbrev pub byte_cutting : Cutting (ℕ × ℕ)
byte_cutting = item_cutting one_byte placed_at

-- a reader has given this, and goes on
abbrev pub GivenSoFar : Reading EachByte → Given (ℕ × ℕ) → Type 0
GivenSoFar reader so_far = ReadSoFar one_byte placed_at each_byte limit reader so_far
