use Rattle.std.proofs.Common.{◌≡◌, ◌∙◌, sym, subst}
use Rattle.up_translator.specs.Held.{UpState}
use Rattle.c_translators.specs.Up.{IsSound, most_words}
use Rattle.c_translators.proofs.UpLaws.{result_keeps, sound_after, stays_within}
use Rattle.c_translators.proofs.up.CUp.byte.Goals as goal

pub invariant_of-self : goal.invariant_of-self
invariant_of-self c =
    let up = c.self.inside.up in
    let law = c.exclusives_stay_within_their_limit.ensures in
    let stays = stays_within law up c.args.offset c.args.byte c.self.invariant.1.within in
    let keeps = result_keeps up c.args.byte c.args.offset c.args.words.now c.take.result c.take.new.outcome c.take.new.words
    c.take.ensures.answer in
    let I : UpState → Type 0 = λ state. (c.self.inside.most_written ≡ most_words state) × IsSound state in
    subst I (sym c.take.ensures.after) (
      c.self.invariant.0 ∙ sym stays.0,
      sound_after law up c.args.offset c.args.byte c.self.invariant.1 keeps,
    )
