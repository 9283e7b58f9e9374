-- A stream of bytes, read byte by byte.
use Rattle.std.proofs.Common.{◌≡◌, ◌+◌, ℕ, List, [], ◌∷◌, length, Option, refl, ap, sym, ◌∙◌, arith}
use Rattle.std.specs.Prelude.{reverse}
use Rattle.std.specs.List.{AllByRecursion, concat}
use Rattle.std.proofs.lemmas.List.{length-append, length-reverse}
use Rattle.item_reader.specs.ByteReader.{byte_at, one_byte}
use Rattle.item_reader.specs.Cut.{IsItem, items_from}
use Rattle.item_reader.specs.Reading.{Cursor, Gives, Reading}
use Rattle.item_reader.specs.SoFar.{given}
use Rattle.item_reader.specs.declared.byte_reader.EachByte.{EachByte}
use Rattle.pass_loop.specs.Bytes.{GivenSoFar, placed_at}

-- as many bytes as items
count : (at : ℕ) (chunks : List (List ℕ)) → AllByRecursion (IsItem one_byte) chunks
    → length (items_from placed_at at chunks) ≡ length (concat chunks)
count at [] each = refl
count at (chunk ∷ chunks) each = omega (arith, count (at + length chunk) chunks each.1, each.0, length-append chunk (concat chunks))

-- as many bytes were given as the offset says
pub at_end : (reader : Reading EachByte) (all left : Option (List ℕ)) (items : List (ℕ × ℕ)) → GivenSoFar reader (given all left items)
    → reader.offset ≡ length (reverse items)
at_end reader all left items so_far =
    ap (λ r. r.offset) so_far.place
    ∙ sym (count 0 so_far.chunks so_far.each)
    ∙ ap length (sym so_far.same)
    ∙ sym (length-reverse items)

-- a byte's offset is the number of bytes before it
pub at_place : (old new : Cursor EachByte) (all : Option (List ℕ)) (items : List (ℕ × ℕ)) (item : ℕ × ℕ)
    → GivenSoFar old.reader (given all old.left items) → Gives one_byte old new byte_at item
    → item.1 ≡ length (reverse items)
at_place old new all items item so_far gives =
    ap (λ (g : ℕ × ℕ). g.1) gives.item_is ∙ at_end old.reader all old.left items so_far
