use Rattle.std.proofs.Common.{◌≡◌, ◌∙◌, true, subst, sym}
use Rattle.down_translator.specs.Held.{DownState}
use Rattle.down_translator.specs.Lowered.{IsShortenedStep, goes_shortened}
use Rattle.down_translator.proofs.Midi1Laws.{midi1_short, same_short}
use Rattle.down_translator.proofs.down.Down.shortened_midi1.Goals as goal

pub returns-in-Some : goal.returns-in-Some
returns-in-Some c =
    let state : DownState = c.args.self.now in
    let p = c.args.packet.now in
    let m = c.in-Some.message in
    let short = c.shorten.result in
    let whole : goes_shortened state p ≡ true =
    sym (same_short state p m c.in-Some.ensures) ∙ sym c.shortens.ensures ∙ c.if-shortens.true in
    let After : DownState → Type 0 = λ after. IsShortenedStep state p short after in
    subst After (sym c.shorten.ensures.after)
    (midi1_short state p m short c.in-Some.ensures whole c.shorten.ensures.lane c.shorten.ensures.bytes c.shorten.ensures.attribute)
