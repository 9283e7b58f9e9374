use Rattle.std.proofs.Common.{◌≡◌, ◌∙◌, ◌<◌, ap, arith, length}
use Rattle.voice_messages.specs.declared.voice2.Form.TheVariants as form
use Rattle.sysex_groups.specs.Exclusives.{Part}
use Rattle.sysex_groups.proofs.BufferLaws.{table_found}
use Rattle.sysex_groups.proofs.groups.Groups.holds.Goals as goal

pub returns-clause-after : goal.returns-clause-after
returns-clause-after c = λ offset held.
    let buffers = c.self.inside.buffers.items in
    let index = c.get.result in
    let buffer = c.index_mut.result.now in
    let part : Part = record { group = c.args.group; form = form.Continue; bytes = c.args.bytes.now; offset = offset } in
    let within : index < length buffers = omega (arith, c.get.ensures.value, c.get.ensures.below, c.self.invariant.0) in
    let found = c.index_mut.ensures.value in
    let rooms : buffer.room ≡ c.self.inside.room = ap (λ b. b.room) found ∙ c.self.invariant.1 index buffer within in
    table_found c.self.inside.room c.args.self.now buffers index buffer c.holds.new.self part c.self.view_is
    c.get.ensures.value within found rooms (c.holds.ensures.after offset held)
