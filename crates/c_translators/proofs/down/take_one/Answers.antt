use Rattle.std.proofs.Common.{List, ℕ, subst, arith}
use Rattle.std.proofs.lemmas.List.{take_all}
use Rattle.std.specs.Prelude.{Ok}
use Rattle.c_translators.specs.Down.{IsTakenOrRefused}
use Rattle.c_translators.proofs.down.take_one.Goals as goal

pub returns-then-take_pair-clause-answer : goal.returns-then-take_pair-clause-answer
returns-then-take_pair-clause-answer c =
    let T : List ℕ → Type 0 =
    λ words. IsTakenOrRefused c.args.down.now c.args.offset words c.args.buffer.now (Ok c.take_pair.new.piece) c.take_pair.new.buffer
    c.take_pair.new.down in
    subst T (take_all 2 c.args.words.now (omega (arith, c.if-words-eq2.true))) (c.take_pair.ensures.taken c.if-take_pair.true).taken
