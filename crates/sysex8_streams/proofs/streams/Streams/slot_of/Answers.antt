use Rattle.std.proofs.Common.{◌∙◌, ap, ◌≡◌, rules}
use Rattle.std.specs.List.{position}
use Rattle.sysex8_streams.specs.History.{key_of}
use Rattle.sysex8_streams.specs.Slots.{slot8_of}
use Rattle.sysex8_streams.specs.Table.{is_of}
use Rattle.sysex8_streams.proofs.ViewLaws.{position-map}
use Rattle.sysex8_streams.proofs.streams.Streams.slot_of.Goals as goal

pub returns : goal.returns
returns c =
    let found : c.find_stream.result ≡ position (λ slot. is_of (key_of c.args.group c.args.stream) (slot8_of slot)) c.deref.result.now =
    search rules in
    found
    ∙ ap (position (λ slot. is_of (key_of c.args.group c.args.stream) (slot8_of slot))) c.deref.ensures.value
    ∙ position-map (is_of (key_of c.args.group c.args.stream)) c.self.inside.slots.items
    ∙ ap (λ table. position (is_of (key_of c.args.group c.args.stream)) table.slots) c.self.view_is
