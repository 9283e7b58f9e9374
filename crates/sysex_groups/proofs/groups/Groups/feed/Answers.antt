use Rattle.std.proofs.Common.{◌≡◌, ◌∙◌, ◌<◌, ap, refl, arith, length}
use Rattle.sysex_groups.specs.Exclusives.{Part}
use Rattle.sysex_groups.proofs.BufferLaws.{answer_found, table_found}
use Rattle.sysex_groups.proofs.groups.Groups.feed.Goals as goal

pub returns : goal.returns
returns c =
    let buffers = c.self.inside.buffers.items in
    let index = c.get-index.result in
    let buffer = c.index_mut-buffer.result.now in
    let part : Part = record { group = c.args.group; form = c.args.form; bytes = c.args.bytes.now; offset = c.args.offset } in
    let within : index < length buffers = omega (arith, c.get-index.ensures.value, c.get-index.ensures.below, c.self.invariant.0) in
    let found = c.index_mut-buffer.ensures.value in
    let rooms : buffer.room ≡ c.self.inside.room = ap (λ b. b.room) found ∙ c.self.invariant.1 index buffer within in (
      (
        refl,
        (λ _. tt),
        table_found c.self.inside.room c.args.self.now buffers index buffer c.feed.follows.lender-at-none part c.self.view_is
            c.get-index.ensures.value within found rooms c.feed.follows.holds-at-none,
      ),
      record {
        answer =
            c.feed.ensures.answer
            ∙ answer_found c.self.inside.room c.args.self.now buffers index buffer part c.self.view_is c.get-index.ensures.value within
            found rooms;
        data_bytes = c.feed.ensures.data_bytes;
        after = tt;
      },
    )
