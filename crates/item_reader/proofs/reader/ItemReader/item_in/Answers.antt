use Rattle.std.proofs.Common.{ℕ, arith, sym, subst, take}
use Rattle.item_reader.specs.Cut.{IsItem}
use Rattle.item_reader.proofs.CutLaws.{item_taken}
use Rattle.item_reader.proofs.reader.ItemReader.item_in.Goals as goal

pub item-item-requires : goal.item-item-requires
item-item-requires g c =
    let how = c.self.inside.how in
    let rest = c.rest_in-rest.result.now in
    let P : ℕ → Type 0 = λ n. IsItem (g.H.Cut.asked how) (take n rest) in
    subst P (sym c.asked-size.ensures.count)
    (item_taken (g.H.Cut.asked how) (g.met.H.Cut.lengths how) rest (omega (arith, c.asked-size.ensures.count, c.if-size-rest.true)))
