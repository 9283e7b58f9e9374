use Rattle.std.proofs.Common.{◌∙◌, ◌≡◌, ap, sym, rules}
use Rattle.std.specs.List.{position}
use Rattle.std.specs.Option.{option_map}
use Rattle.sysex8_streams.specs.History.{key_of}
use Rattle.sysex8_streams.specs.Table.{is_of}
use Rattle.sysex8_streams.proofs.ViewLaws.{start-found, absent}
use Rattle.sysex8_streams.proofs.streams.Streams.begun8_at.Goals as goal

pub returns-in-Some : goal.returns-in-Some
returns-in-Some c =
    let key = key_of c.args.group c.args.stream in
    let slots = c.self.inside.slots.items in
    let place : c.slot_of.result ≡ position (is_of key) c.args.self.now.slots = search rules in
    c.start.ensures
    ∙ start-found key c.self.inside.room c.args.self.now slots c.in-Some.index c.index.result.now c.self.view_is (sym place ∙ c.in-Some.is)
    c.index.ensures

pub returns-in-None : goal.returns-in-None
returns-in-None c =
    let key = key_of c.args.group c.args.stream in
    let place : c.slot_of.result ≡ position (is_of key) c.args.self.now.slots = search rules in
    sym (ap (option_map (λ begun. begun.start)) (absent key c.args.self.now (sym place ∙ c.in-None.is)))
