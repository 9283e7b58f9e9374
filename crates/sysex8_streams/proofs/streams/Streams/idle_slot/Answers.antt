use Rattle.std.proofs.Common.{◌∙◌, ap}
use Rattle.std.specs.List.{position}
use Rattle.std.specs.Option.{is_none}
use Rattle.sysex8_streams.specs.Slots.{slot8_of}
use Rattle.sysex8_streams.specs.Table.{idle_slot}
use Rattle.sysex8_streams.proofs.ViewLaws.{position-map}
use Rattle.sysex8_streams.proofs.streams.Streams.idle_slot.Goals as goal

pub returns : goal.returns
returns c =
    c.find_idle.ensures
    ∙ ap (position (λ slot. is_none (slot8_of slot))) c.deref.ensures.value
    ∙ position-map is_none c.self.inside.slots.items
    ∙ ap (λ table. idle_slot table.slots) c.self.view_is
