use Rattle.std.proofs.Common.{◌≡◌, ◌≤◌, ◌∙◌, ap, arith, length, vec_len}
use Rattle.std.proofs.lemmas.List.{with_items_is}
use Rattle.sysex_groups.proofs.BufferLaws.{table_of, table_cleared}
use Rattle.sysex_groups.proofs.groups.Groups.reset.Goals as goal

pub returns : goal.returns
returns c =
    let held = c.self.inside in
    let buffers = c.loop-buffer.buffer-items in
    let index = c.loop-buffer.buffer-index in
    let size : length buffers ≡ vec_len held.buffers = c.loop-buffer.auto.buffer-items ∙ c.deref_mut-buffer-items.ensures.len in
    let whole : length buffers ≤ index = omega (arith, c.loop-buffer-test.false, c.loop-buffer.auto.buffer-items) in
    let kept = c.loop-buffer.invariant in
    ap (table_of held.room) (with_items_is held.buffers buffers size)
    ∙ table_cleared held.room c.args.self.now.room index buffers (ap (λ table. table.room) c.self.view_is) kept.0 whole kept.2
