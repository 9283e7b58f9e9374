use Rattle.std.proofs.Common.{ℕ, Option, List, subst, sym, ap}
use Rattle.std.specs.Prelude.{Bool, Ok, Err}
use Rattle.item_reader.specs.Reading.{Brings, Reading, cursor}
use Rattle.item_reader.specs.SoFar.{ReadSoFar, given}
use Rattle.item_reader.specs.declared.cutting.Tail.TheVariants as tail
use Rattle.outside.specs.declared.objects.ReadStop.{ReadStop}
use Rattle.pass_loop.specs.Items.{after_offset, item_cutting, limit}
use Rattle.pass_loop.specs.Next.{GivesMore}
use Rattle.pass_loop.specs.declared.pass.More.{More}
use Rattle.pass_loop.proofs.each_items.EachItemsItemsU64.more.Goals as goal
use Rattle.pass_loop.proofs.each_items.EachItemsItemsU64.more.Goals.{in-Ok-true, in-Ok-false, in-Err-Read, in-Err-Truncated, in-Err-TooLong}

pub returns-clause-answer : goal.returns-clause-answer
returns-clause-answer g c = λ first all items given_so_far.
    let left : Option (List ℕ) = g.S.Source.left c.args.input.now in
    let left' : Option (List ℕ) = g.S.Source.left c.more.new.src in
    let reader = c.self.inside.reader in
    let reader' = c.more.new.self in
    let asked = g.H.Cut.asked reader.how in
    let R : Reading g.row.H.Denot → Type 0 =
    λ r. ReadSoFar (g.H.Cut.asked first.how) (after_offset (g.H.Cut.item_of first.how)) first.how limit r (given all left items) in
    let so_far = subst R (sym c.self.view_is) given_so_far in
    let goes_on = ap (λ r. r.end) so_far.place in
    let laws = c.items_are_taken_in_order.ensures (λ how. after_offset (g.H.Cut.item_of how)) in
    let G : More → Type 0 =
    λ more. GivesMore (item_cutting (g.H.Cut.asked first.how) (after_offset (g.H.Cut.item_of first.how)))
    (λ so_far. ReadSoFar (g.H.Cut.asked first.how) (after_offset (g.H.Cut.item_of first.how)) first.how limit reader' so_far)
    (given all left' items) more in
    let K : Bool → Type 0 = λ held. Brings asked (cursor reader left) (cursor reader' left') (Ok held) in
    let E : ReadStop → Type 0 = λ stop. Brings asked (cursor reader left) (cursor reader' left') (Err stop) in
    elim c.match-more.branch [
      | in-Ok-true w ↦
          subst G (sym w.result-is)
          (laws.brought_more first.how reader all left items so_far reader' left'
          (subst K w.in-Ok-true.field-0-test (w.in-Ok-true.ensures.answer goes_on)))
      | in-Ok-false w ↦
          subst G (sym w.result-is)
          (laws.at_end first.how reader all left items so_far reader' left'
          (subst K w.in-Ok-false.field-0-test (w.in-Ok-false.ensures.answer goes_on)))
      | in-Err-Read w ↦
          let waits = subst E w.in-Err-Read.field-0-is (w.in-Err-Read.ensures.answer goes_on) in
          subst G (sym w.result-is) (
            laws.still_given first.how reader all left items so_far reader' left' waits,
            laws.at_fault first.how reader all left items so_far reader' left' waits,
          )
      | in-Err-Truncated w ↦
          subst G (sym w.result-is)
          (laws.at_tail first.how reader all left items so_far reader' left' (tail.Truncated w.in-Err-Truncated.offset)
          (subst E w.in-Err-Truncated.field-0-is (w.in-Err-Truncated.ensures.answer goes_on)))
      | in-Err-TooLong w ↦
          subst G (sym w.result-is)
          (laws.at_tail first.how reader all left items so_far reader' left' tail.TooLong
          (subst E w.in-Err-TooLong.field-0-is (w.in-Err-TooLong.ensures.answer goes_on)))
    ]
