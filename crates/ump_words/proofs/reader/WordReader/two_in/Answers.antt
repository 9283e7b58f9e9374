use Rattle.std.proofs.Common.{◌+◌, ap, arith, subst, ◌∙◌}
use Rattle.ump_words.specs.Cut.{word_at}
use Rattle.ump_words.specs.Reader.{IsHeldAt, Reading, framed_pair}
use Rattle.ump_words.proofs.Pairs.{pair_held}
use Rattle.ump_words.proofs.reader.WordReader.two_in.Goals as goal

pub returns-clause-packet : goal.returns-clause-packet
returns-clause-packet c = λ whole.
    let at = c.args.at in
    let reader = c.self.inside.packets in
    let rest = c.rest_in-rest.result.now in
    let first = c.word_in.result in
    let second = c.word_in-2.result in
    let order_is = c.behind-self.view_is ∙ c.how.ensures in
    let P : Reading → Type 0 = λ r. IsHeldAt at (at + 8) r (framed_pair (r.offset + at) first second) in
    subst P c.self.view_is
    (pair_held at reader rest first second (omega (arith, c.if-rest-lt8.false)) (c.word_in.ensures ∙ ap (λ order. word_at order rest 0) order_is)
    (c.word_in-2.ensures ∙ ap (λ order. word_at order rest 1) order_is) whole c.rest_in-rest.ensures.item)
