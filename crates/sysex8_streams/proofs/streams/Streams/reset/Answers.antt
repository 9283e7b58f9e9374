use Rattle.std.proofs.Common.{◌≡◌, ◌≤◌, ◌∙◌, ap, sym, arith, length, vec_len}
use Rattle.std.proofs.lemmas.List.{length-map, with_items_is}
use Rattle.sysex8_streams.specs.Slots.{slot8_of}
use Rattle.sysex8_streams.proofs.ViewLaws.{table_of, table_cleared}
use Rattle.sysex8_streams.proofs.streams.Streams.reset.Goals as goal

pub returns : goal.returns
returns c =
    let held = c.self.inside in
    let slots = c.loop-slot.slot-items in
    let index = c.loop-slot.slot-index in
    let size : length slots ≡ vec_len held.slots = c.loop-slot.auto.slot-items ∙ c.deref_mut-slot-items.ensures.len in
    let sized : length slots ≡ length c.args.self.now.slots =
    c.loop-slot.auto.slot-items
    ∙ ap length c.deref_mut-slot-items.ensures.value
    ∙ sym (length-map held.slots.items slot8_of)
    ∙ ap (λ table. length table.slots) c.self.view_is in
    let whole : length slots ≤ index = omega (arith, c.loop-slot-test.false, c.loop-slot.auto.slot-items) in
    let kept = c.loop-slot.invariant in
    ap (table_of held.room) (with_items_is held.slots slots size)
    ∙ table_cleared held.room c.args.self.now.room index (length c.args.self.now.slots) slots (ap (λ table. table.room) c.self.view_is) sized
    whole kept.1
