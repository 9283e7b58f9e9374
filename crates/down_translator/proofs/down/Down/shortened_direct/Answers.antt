use Rattle.std.proofs.Common.{◌∙◌, subst, sym}
use Rattle.down_translator.specs.Held.{DownState}
use Rattle.down_translator.specs.Lowered.{IsShortenedStep, message_packet}
use Rattle.down_translator.proofs.ShortenedLaws.{taken_shortened}
use Rattle.down_translator.proofs.down.Down.shortened_direct.Goals as goal

pub returns-then-is_shortened : goal.returns-then-is_shortened
returns-then-is_shortened c =
    let state : DownState = c.args.self.now in
    let m = c.args.message.now in
    let short = c.shorten.result in
    let After : DownState → Type 0 = λ after. IsShortenedStep state (message_packet m) short after in
    subst After (sym c.shorten.ensures.after)
    (taken_shortened state m c.lowered.result short c.requires (sym c.is_shortened.ensures ∙ c.if-is_shortened.true)
    c.lowered.ensures.lane c.lowered.ensures.bytes c.lowered.ensures.attribute
    c.shorten.ensures.lane c.shorten.ensures.attribute c.shorten.ensures.bytes)
