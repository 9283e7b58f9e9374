use Rattle.std.proofs.Common.{ℕ, subst}
use Rattle.item_reader.specs.Reading.{IsHeldAt, Reading, cursor, passed}
use Rattle.pass_loop.specs.Items.{after_offset}
use Rattle.pass_loop.proofs.ItemLaws.{placed}
use Rattle.pass_loop.proofs.each_items.EachItemsItemsU64.item_in.Goals as goal

pub returns-in-Some-clause-answer : goal.returns-in-Some-clause-answer
returns-in-Some-clause-answer g c = λ first all left items so_far.
    let reader : Reading g.row.H.Denot = c.args.self.now in
    let before : Reading g.row.H.Denot = passed c.args.place reader in
    let after : Reading g.row.H.Denot = passed c.in-Some.given.1 reader in
    let H : Reading g.row.H.Denot → Type 0 =
    λ r. IsHeldAt (g.H.Cut.asked r.how) (g.H.Cut.item_of r.how) c.args.place c.in-Some.given.1 r c.in-Some.given.0 in
    let held = subst H c.self.view_is c.in-Some.ensures in
    let asked = g.H.Cut.asked reader.how in
    let item_of = g.H.Cut.item_of reader.how in
    let item : ℕ × g.row.I.Denot = (c.in-Some.given.0.1, c.in-Some.given.0.0) in
    let one = placed asked item_of (cursor before left) (cursor after left) c.in-Some.given.0 (held.gives left) in
    let laws = c.items_are_taken_in_order.ensures (λ how. after_offset (g.H.Cut.item_of how)) in (
      laws.given_more first.how before all left items so_far after left item one,
      tt,
      laws.front_more first.how before all left items so_far after left item one,
    )
