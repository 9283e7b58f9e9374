use Rattle.std.proofs.Common.{List, ℕ, subst, take, arith}
use Rattle.std.specs.Prelude.{Ok}
use Rattle.down_translator.specs.Held.{DownState}
use Rattle.c_translators.specs.Down.{IsTakenOrRefused}
use Rattle.c_translators.proofs.down.take_front.Goals as goal

pub returns-in-Ok-clause-answer : goal.returns-in-Ok-clause-answer
returns-in-Ok-clause-answer c =
    let same = c.take_pair.ensures.same c.if-take_pair.false in
    let own : List ℕ = take c.words_in_packet-count.result c.args.words.now in
    let D : DownState → Type 0 =
    λ from. IsTakenOrRefused from c.args.offset own c.take_pair.new.buffer (Ok c.take_any.new.piece) c.take_any.new.buffer
    c.take_any.new.down in
    let B : List ℕ → Type 0 =
    λ old. IsTakenOrRefused c.args.down.now c.args.offset own old (Ok c.take_any.new.piece) c.take_any.new.buffer c.take_any.new.down in
    (c.words_in_packet-count.ensures.count, omega (arith, c.if-words-count.false), subst B same.1 (subst D same.0 c.in-Ok.ensures.answer))
