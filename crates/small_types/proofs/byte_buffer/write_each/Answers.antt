use Rattle.std.proofs.Common.{◌≡◌, ℕ, ◌+◌, List, [], ◌∷◌, ◌++◌, take, set, ap, sym, ◌∙◌, arith, append_assoc, slice_index_or}
use Rattle.std.proofs.lemmas.List.{take_more, take_more_set, length-set}
use Rattle.small_types.proofs.byte_buffer.write_each.Goals as goal

pub loop-index-preserved : goal.loop-index-preserved
loop-index-preserved c =
    let start = c.args.start in
    let index = c.loop-index.index in
    let byte = slice_index_or c.args.bytes.now index 0 in
    let cells : List ℕ = set c.loop-index.cells (start + index) byte in
    let i = c.loop-index.invariant in
    let within = c.loop-index-test.true in
    let next : start + (index + 1) ≡ start + index + 1 = omega arith in (
      ap (λ n. take n cells) next
          ∙ take_more_set c.loop-index.cells (start + index) byte (omega (arith, i.1, within, c.requires))
          ∙ ap (λ l. l ++ byte ∷ []) i.0
          ∙ append_assoc (take start c.args.cells.now) (take index c.args.bytes.now) (byte ∷ [])
          ∙ ap (λ l. take start c.args.cells.now ++ l) (sym (take_more c.args.bytes.now index 0 within)),
      length-set c.loop-index.cells (start + index) byte ∙ i.1,
    )
