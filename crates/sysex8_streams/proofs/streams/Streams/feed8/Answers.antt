use Rattle.std.proofs.Common.{◌∙◌, ◌≡◌, ap, sym, refl, rules, Some}
use Rattle.std.specs.List.{position}
use Rattle.sysex_groups.specs.Exclusives.{Part}
use Rattle.sysex8_streams.specs.History.{key_of, part_of}
use Rattle.sysex8_streams.specs.Table.{is_of, Table8}
use Rattle.sysex8_streams.proofs.ViewLaws.{for-found, answer-found, table-found, within-found}
use Rattle.sysex8_streams.proofs.streams.Streams.feed8.Goals as goal

pub feed-requires : goal.feed-requires
feed-requires c =
    let key = key_of c.args.part.now.group c.args.part.now.stream in
    let place : c.slot_of.result ≡ position (is_of key) c.args.self.now.slots = search rules in
    record {
      own =
          for-found key c.self.inside.room c.args.self.now c.self.inside.slots.items c.in-Some.index c.index_mut-slot.result.now
          c.self.view_is (sym place ∙ c.in-Some.is) c.index_mut-slot.ensures.value;
    }

pub returns-in-Some : goal.returns-in-Some
returns-in-Some c =
    let slots = c.self.inside.slots.items in
    let index = c.in-Some.index in
    let slot = c.index_mut-slot.result.now in
    let part : Part = part_of c.args.part.now c.args.offset in
    let now : Table8 = c.args.self.now in
    let place : c.slot_of.result ≡ position (is_of part.group) now.slots = search rules in
    let found : position (is_of part.group) now.slots ≡ Some index = sym place ∙ c.in-Some.is in
    let at = c.index_mut-slot.ensures.value in
    let rooms : slot.room ≡ c.self.inside.room =
    ap (λ s. s.room) at ∙ c.self.invariant index slot (within-found part.group c.self.inside.room now slots index c.self.view_is found) in (
      (
        refl,
        (λ _. tt),
        table-found c.self.inside.room now slots index slot c.feed.follows.lender-at-none part c.self.view_is found at rooms
            c.feed.follows.holds-at-none,
      ),
      record {
        answer = c.feed.ensures.answer ∙ answer-found c.self.inside.room now slots index slot part c.self.view_is found at rooms;
        after = tt;
      },
    )
