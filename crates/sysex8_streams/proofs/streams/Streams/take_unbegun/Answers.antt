use Rattle.std.proofs.Common.{◌∙◌, ◌≡◌, ap, sym, refl, Some, None, inl, inr}
use Rattle.sysex_groups.specs.Exclusives.{Part}
use Rattle.voice_messages.specs.declared.voice2.Form.TheVariants as form
use Rattle.sysex8_streams.specs.History.{part_of, whole8}
use Rattle.sysex8_streams.specs.Table.{Table8, idle_slot}
use Rattle.sysex8_streams.proofs.ViewLaws.{answer-unbegun, table-unbegun, table-put}
use Rattle.sysex8_streams.proofs.streams.Streams.take_unbegun.Goals as goal

pub returns-in-Complete : goal.returns-in-Complete
returns-in-Complete c =
    let now : Table8 = c.args.self.now in
    let part : Part = part_of c.args.part.now c.args.offset in (
      (refl, (λ _. tt), c.self.view_is ∙ table-unbegun now part c.requires form.Complete c.in-Complete.is (idle_slot now.slots) refl),
      record {
        answer =
            ap whole8 (c.as_slice.ensures.value ∙ c.copied-self-inside.ensures)
            ∙ answer-unbegun now part c.requires form.Complete c.in-Complete.is (idle_slot now.slots) refl;
        after = tt;
      },
    )

pub returns-in-Some : goal.returns-in-Some
returns-in-Some c =
    let now : Table8 = c.args.self.now in
    let part : Part = part_of c.args.part.now c.args.offset in
    let idle : idle_slot now.slots ≡ Some c.in-Some.index =
    sym (ap (λ table. idle_slot table.slots) c.self.view_is) ∙ sym c.idle_slot.ensures ∙ c.in-Some.is in (
      (
        refl,
        (λ _. tt),
        table-put c.self.inside.room now c.self.inside.slots.items c.in-Some.index c.begin.new.self part c.self.view_is c.requires
            c.in-Start.is idle (ap (λ state. state.slot) c.begin.ensures),
      ),
      record { answer = answer-unbegun now part c.requires form.Start c.in-Start.is (Some c.in-Some.index) idle; after = tt },
    )

pub returns-in-None : goal.returns-in-None
returns-in-None c =
    let now : Table8 = c.args.self.now in
    let part : Part = part_of c.args.part.now c.args.offset in
    let idle : idle_slot now.slots ≡ None =
    sym (ap (λ table. idle_slot table.slots) c.self.view_is) ∙ sym c.idle_slot.ensures ∙ c.in-None.is in (
      (refl, (λ _. tt), c.self.view_is ∙ table-unbegun now part c.requires form.Start c.in-Start.is None idle),
      record { answer = answer-unbegun now part c.requires form.Start c.in-Start.is None idle; after = tt },
    )

pub returns-in-Continue : goal.returns-in-Continue
returns-in-Continue c =
    let now : Table8 = c.args.self.now in
    let part : Part = part_of c.args.part.now c.args.offset in
    let e = idle_slot now.slots in
    elim c.in-Continue.is [
      | inl is ↦ (
        (refl, (λ _. tt), c.self.view_is ∙ table-unbegun now part c.requires form.Continue is e refl),
        record { answer = answer-unbegun now part c.requires form.Continue is e refl; after = tt },
      )
      | inr is ↦ (
        (refl, (λ _. tt), c.self.view_is ∙ table-unbegun now part c.requires form.End is e refl),
        record { answer = answer-unbegun now part c.requires form.End is e refl; after = tt },
      )
    ]
