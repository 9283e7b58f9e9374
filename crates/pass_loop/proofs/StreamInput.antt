-- The items of a stream that is cut to its end are its bytes, each after the number of those before it.
use Rattle.std.proofs.Common.{◌≡◌, ◌+◌, ℕ, List, [], ◌∷◌, ◌++◌, length, None, refl, ap, sym, ◌∙◌, subst, arith}
use Rattle.std.specs.Prelude.{reverse, slice_index}
use Rattle.std.specs.List.{AllByRecursion, concat}
use Rattle.std.proofs.lemmas.List.{append_assoc, append-nil, map-append, reverse-append}
use Rattle.item_reader.specs.ByteReader.{one_byte}
use Rattle.item_reader.specs.Cut.{IsCutInto, IsItem, items_from}
use Rattle.item_reader.specs.declared.cutting.Tail.{Tail}
use Rattle.item_reader.specs.declared.cutting.Tail.TheVariants.{End, Truncated, TooLong}
use Rattle.pass_loop.specs.Bytes.{byte_cutting, bytes_read, placed_at}
use Rattle.pass_loop.specs.Items.{limit, refusal_at}

one-byte : (chunk : List ℕ) → length chunk ≡ 1 → slice_index chunk 0 ∷ [] ≡ chunk
one-byte [] one = absurd (omega (arith, one))
one-byte (byte ∷ []) one = refl
one-byte (byte ∷ other ∷ more) one = absurd (omega (arith, one))

same-bytes : (at : ℕ) (chunks : List (List ℕ)) → AllByRecursion (IsItem one_byte) chunks
    → bytes_read (items_from placed_at at chunks) ≡ concat chunks
same-bytes at [] each = refl
same-bytes at (chunk ∷ chunks) each =
    ap (λ xs. slice_index chunk 0 ∷ xs) (same-bytes (at + length chunk) chunks each.1)
    ∙ ap (λ xs. xs ++ concat chunks) (one-byte chunk each.0)

-- each of these items has the number of those before it as its offset, the first of them this one
abbrev AreNumbered : ℕ → List (ℕ × ℕ) → Type 0
AreNumbered at [] = Unit {0}
AreNumbered at (item ∷ items) = (item.0 ≡ at) × AreNumbered (at + 1) items

are-numbered : (at : ℕ) (chunks : List (List ℕ)) → AllByRecursion (IsItem one_byte) chunks
    → AreNumbered at (items_from placed_at at chunks)
are-numbered at [] each = tt
are-numbered at (chunk ∷ chunks) each =
    let N : ℕ → Type 0 = λ n. AreNumbered (at + 1) (items_from placed_at (at + n) chunks) in
    (refl, subst N (sym each.0) (are-numbered (at + 1) chunks each.1))

-- the same of items that are listed newest first
abbrev pub ArePlaced : List (ℕ × ℕ) → Type 0
ArePlaced [] = Unit {0}
ArePlaced (item ∷ past) = (item.0 ≡ length past) × ArePlaced past

placed-on : (past items : List (ℕ × ℕ)) → ArePlaced past → AreNumbered (length past) items → ArePlaced (reverse items ++ past)
placed-on past [] are on = are
placed-on past (item ∷ items) are on =
    let A : List (ℕ × ℕ) → Type 0 = λ xs. ArePlaced xs in
    let N : ℕ → Type 0 = λ n. AreNumbered n items in
    let n : length past + 1 ≡ length (item ∷ past) = omega arith in
    let turned : reverse items ++ (item ∷ past) ≡ reverse (item ∷ items) ++ past =
    sym (append_assoc (reverse items) (item ∷ []) past) ∙ ap (λ xs. xs ++ past) (sym (reverse-append (item ∷ []) items)) in
    subst A turned (placed-on (item ∷ past) items (on.0, are) (subst N n on.1))

bytes-turned : (items : List (ℕ × ℕ)) → bytes_read (reverse items) ≡ reverse (bytes_read items)
bytes-turned [] = refl
bytes-turned (item ∷ items) =
    ap bytes_read (reverse-append (item ∷ []) items)
    ∙ map-append (λ (i : ℕ × ℕ). i.1) (reverse items) (item ∷ [])
    ∙ ap (λ xs. xs ++ item.1 ∷ []) (bytes-turned items)
    ∙ sym (reverse-append (item.1 ∷ []) (bytes_read items))

rest-none : (bytes : List ℕ) (items : List (ℕ × ℕ)) (tail : Tail) (into : IsCutInto one_byte placed_at limit bytes items tail)
    → None ≡ refusal_at tail → into.cuts.rest ≡ []
rest-none bytes items End into none = into.cuts.ends.0
rest-none bytes items (Truncated offset) into none = cc
rest-none bytes items TooLong into none = cc

module _ (bytes : List ℕ) (items : List (ℕ × ℕ)) (cut : byte_cutting bytes items None) where
  -- they are the bytes, the newest first
  pub turned-bytes : bytes_read (reverse items) ≡ reverse bytes
  turned-bytes =
      let into = cut.1 in
      let whole : bytes ≡ concat into.chunks =
      into.cuts.whole
      ∙ ap (λ xs. concat into.chunks ++ xs) (rest-none bytes items cut.0 into cut.2)
      ∙ append-nil (concat into.chunks) in
      bytes-turned items ∙ ap reverse (ap bytes_read into.same ∙ same-bytes 0 into.chunks into.cuts.each ∙ sym whole)

  pub are-placed : ArePlaced (reverse items)
  are-placed =
      let into = cut.1 in
      let P : List (ℕ × ℕ) → Type 0 = λ xs. ArePlaced xs in
      let N : List (ℕ × ℕ) → Type 0 = λ xs. AreNumbered 0 xs in
      subst P (append-nil (reverse items))
      (placed-on [] items tt (subst N (sym into.same) (are-numbered 0 into.chunks into.cuts.each)))
