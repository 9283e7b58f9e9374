use Rattle.std.proofs.Common.{◌≤◌, length, arith, subst}
use Rattle.up_translator.specs.Held.{UpState}
use Rattle.c_translators.specs.Up.{IsDoneOrLeft, most_words}
use Rattle.c_translators.proofs.DirectByteLaws.{done_or_left, sound_or_left}
use Rattle.c_translators.proofs.up.CUp.direct.Goals as goal

pub returns-clause-answer : goal.returns-clause-answer
returns-clause-answer c =
    let new = c.take_direct.new in
    let fits : most_words c.self.inside.up ≤ length c.args.words.now = omega (arith, c.self.invariant.0, c.if-words-self.false) in
    subst (λ (up : UpState). IsDoneOrLeft c.take_direct.result up c.args.byte c.args.offset c.args.words.now new.outcome new.words new.up)
    c.self.view_is
    (done_or_left c.take_direct.result c.self.inside.up c.args.byte c.args.offset c.args.words.now new.outcome new.words new.up fits
    c.take_direct.ensures.answer)

pub invariant_of-self : goal.invariant_of-self
invariant_of-self c =
    sound_or_left c.exclusives_stay_within_their_limit.ensures c.take_direct.result c.self.inside.up c.args.byte c.args.offset
    c.args.words.now c.take_direct.new.outcome c.take_direct.new.words c.take_direct.new.up c.self.inside.most_written c.self.invariant.0
    c.self.invariant.1 c.take_direct.ensures.answer
