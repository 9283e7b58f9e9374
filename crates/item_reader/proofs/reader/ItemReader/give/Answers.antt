use Rattle.std.proofs.Common.{sym, subst, take, List, ℕ}
use Rattle.item_reader.specs.Cut.{IsItem}
use Rattle.item_reader.proofs.Next.{item_seen}
use Rattle.item_reader.proofs.reader.ItemReader.give.Goals as goal

pub item-item-requires : goal.item-item-requires
item-item-requires g c =
    let sees = (rw (← c.self.view_is) at c.requires.seen) in
    let how = c.self.inside.how in
    subst (λ (xs : List ℕ). IsItem (g.H.Cut.asked how) (take c.args.size xs)) (sym c.bytes.ensures.bytes)
    (item_seen (g.H.Cut.asked how) (g.met.H.Cut.lengths how) c.self.inside.window.bytes _ c.args.size sees)
