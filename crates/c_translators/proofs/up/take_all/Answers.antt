use Rattle.std.proofs.Common.{◌≡◌, ◌≤◌, ◌<◌, ◌+◌, ◌-◌, ◌%◌, ◌^◌, ◌∙◌, ℕ, false, List, refl}
use Rattle.std.proofs.Common.{◌++◌, length, length-drop, take, drop, sym, ap, subst, arith}
use Rattle.std.proofs.lemmas.List.{length-take-le, take_all}
use borrow.Rule.Slice.PartMut.{put_mid}
use Rattle.c_answers.specs.Blocks.{is_full, leaves_few, with_item}
use Rattle.c_answers.specs.Fronts.{with_front}
use Rattle.c_answers.specs.Numbers.{number_of}
use Rattle.c_answers.specs.Refusals.{status_of_step}
use Rattle.c_answers.specs.declared.status.Status.{Status}
use Rattle.c_answers.specs.declared.block.Block.{Block}
use Rattle.c_answers.specs.declared.outcome.ByteOutcome.{ByteOutcome}
use Rattle.c_translators.specs.ByteBlocks.{AreTaken, RefusesByte, bytes}
use Rattle.c_translators.specs.Up.{most_words}
use Rattle.c_answers.proofs.BlockLaws as laws
use Rattle.c_translators.proofs.ByteBlockLaws.{AreSoFar, Stays, run_more, refused_keeps}
use Rattle.c_answers.proofs.FrontLaws.{rest_given_back, rest_lent, rest_unchanged}
use Rattle.c_translators.proofs.up.take_all.Goals as goal

pub returns-then-is_full-clause-answer : goal.returns-then-is_full-clause-answer
returns-then-is_full-clause-answer c =
    let l = c.loop-block in
    let are = l.invariant.0 in
    laws.ends_full_by bytes (Stays c.args.up.now) c.args.up.now c.args.offset c.args.bytes.now
    c.args.words.now c.args.outcomes.now l.block l.next l.up l.words l.outcomes are (length l.words) c.args.most_written
    (length l.outcomes) c.is_full.new.self l.auto.words (c.requires.most ∙ sym are.keeps.0) l.auto.outcomes c.loop-block-test.true
    (sym c.is_full.ensures.answer ∙ c.if-is_full.true) (c.is_full.ensures.short c.if-is_full.true)

pub loop-block-preserved : goal.loop-block-preserved
loop-block-preserved c =
    let l = c.loop-block in
    let b = c.is_full.new.self in
    let same : b ≡ l.block = c.is_full.ensures.same c.if-is_full.false in
    let old = c.args.words.now in
    let old_outcomes = c.args.outcomes.now in
    let input = c.args.bytes.now in
    let are : AreSoFar c.args.up.now c.args.offset input old old_outcomes b l.next l.up l.words l.outcomes
    = subst (λ block. AreSoFar c.args.up.now c.args.offset input old old_outcomes block l.next l.up l.words l.outcomes) (sym same)
    l.invariant.0 in
    let taken : b.taken ≡ l.block.taken = ap (λ (block : Block). block.taken) same in
    let written : b.written ≡ l.block.written = ap (λ (block : Block). block.written) same in
    let items : b.items ≡ l.block.items = ap (λ (block : Block). block.items) same in
    let count = c.in-Ok.run'.count in
    let is_run = c.in-Ok.ensures.0 in
    let rest : List ℕ = take (length input - b.taken) (drop b.taken input) in
    let rest_is : rest ≡ drop b.taken input =
    take_all (length input - b.taken) (drop b.taken input) (omega (arith, length-drop b.taken input)) in
    let run : List ℕ = take count rest in
    let there : count ≤ length input - b.taken = omega (arith, is_run.within, ap length rest_is, length-drop b.taken input) in
    let size : length run ≡ count = length-take-le count rest is_run.within in
    let run_is : run ≡ take (length run) (drop b.taken input) =
    ap (take count) rest_is ∙ ap (λ n. take n (drop b.taken input)) (sym size) in
    let room : most_words l.up ≤ length old - b.written =
    omega (arith, c.is_full.ensures.room c.if-is_full.false, c.requires.most, are.keeps.0, written, l.auto.words) in
    let item_room : 1 ≤ length old_outcomes - b.items =
    omega (arith, c.is_full.ensures.item_room c.if-is_full.false, items, l.auto.outcomes) in
    let more =
    run_more c.exclusives_stay_within_their_limit.ensures c.args.up.now c.args.offset input old old_outcomes run b l.next l.up l.words
    l.outcomes are is_run.words is_run.items c.take_front.new.words c.take_front.new.outcomes c.take_front.new.up run_is
    (omega (arith, size, there)) (λ longer. omega (arith, size, c.in-Ok.ensures.2 (omega (arith, size, longer))))
    (omega (arith, size, c.in-Ok.ensures.1)) room item_room is_run.takes
    (is_run.words_are ∙ ap (with_front is_run.words) (rest_lent b.written l.words))
    (is_run.outcomes_are ∙ ap (with_front is_run.items) (rest_lent b.items l.outcomes)) in
    let S : Block → ℕ → List ℕ → List ByteOutcome → Type 0 =
    λ block n words outcomes. AreSoFar c.args.up.now c.args.offset input old old_outcomes block ((l.next + n) % 2 ^ 64) c.take_front.new.up
    words outcomes in
    let words = take b.written l.words ++ c.take_front.new.words in
    let outcomes = take b.items l.outcomes ++ c.take_front.new.outcomes in
    let put : with_item b (length run) (length is_run.words) (length is_run.items) ≡ c.add.new.self =
    (λ i. with_item b (size i) (sym is_run.written_is i) (sym is_run.items_is i)) ∙ sym c.add.ensures in (
      subst (λ os. S c.add.new.self count (put_mid b.written (length l.words - b.written) l.words c.take_front.new.words) os)
          (sym (rest_given_back b.items l.outcomes c.take_front.new.outcomes))
          (subst (λ ws. S c.add.new.self count ws outcomes) (sym (rest_given_back b.written l.words c.take_front.new.words))
          (subst (λ block. S block count words outcomes) put
          (subst (λ n. S (with_item b (length run) (length is_run.words) (length is_run.items)) n words outcomes) size more))),
      λ no_wrap. omega (arith, l.invariant.1 no_wrap, there, taken, ap (λ (block : Block). block.taken) c.add.ensures),
    )

pub returns-in-Err : goal.returns-in-Err
returns-in-Err c =
    let l = c.loop-block in
    let b = c.is_full.new.self in
    let same : b ≡ l.block = c.is_full.ensures.same c.if-is_full.false in
    let old = c.args.words.now in
    let old_outcomes = c.args.outcomes.now in
    let input = c.args.bytes.now in
    let are : AreSoFar c.args.up.now c.args.offset input old old_outcomes b l.next l.up l.words l.outcomes
    = subst (λ block. AreSoFar c.args.up.now c.args.offset input old old_outcomes block l.next l.up l.words l.outcomes) (sym same)
    l.invariant.0 in
    let full : is_full bytes old old_outcomes are.progress ≡ false =
    laws.full_by bytes (Stays c.args.up.now) c.args.up.now c.args.offset input old old_outcomes b l.next l.up l.words l.outcomes are
    (length l.words) c.args.most_written (length l.outcomes) l.auto.words (c.requires.most ∙ sym are.keeps.0) l.auto.outcomes
    ∙ ap (λ block. leaves_few block (length l.words) c.args.most_written (length l.outcomes) 1) same
    ∙ sym c.is_full.ensures.answer ∙ c.if-is_full.false in
    let some : b.taken < length input = omega (arith, ap (λ (block : Block). block.taken) same, c.loop-block-test.true) in
    let rest : List ℕ = take (length input - b.taken) (drop b.taken input) in
    let rest_is : rest ≡ drop b.taken input =
    take_all (length input - b.taken) (drop b.taken input) (omega (arith, length-drop b.taken input)) in
    let why = c.of_step.result in
    let after = c.take_front.new.up in
    let R : List ℕ → Status → Type 0 = λ own why. RefusesByte l.up l.next own why after in
    let refuses : RefusesByte l.up l.next (take 1 (drop b.taken input)) why after =
    subst (λ why. R (take 1 (drop b.taken input)) why) (sym c.of_step.ensures)
    (subst (λ own. R own (status_of_step c.in-Err.bad)) (ap (take 1) rest_is) c.in-Err.ensures.0) in
    let ends =
    laws.ends_refused bytes (Stays c.args.up.now) c.args.up.now c.args.offset input old old_outcomes b l.next l.up l.words l.outcomes are 1
    why after some full refl (omega (arith, some)) refuses in
    let keeps =
    refused_keeps c.exclusives_stay_within_their_limit.ensures c.args.up.now l.up l.next (take 1 (drop b.taken input)) why after are.keeps
    refuses in
    let A : Block → List ℕ → List ByteOutcome → Type 0 =
    λ block words outcomes. AreTaken c.args.up.now c.args.offset input old old_outcomes (number_of why) block words outcomes after in
    let words = put_mid b.written (length l.words - b.written) l.words c.take_front.new.words in
    record {
      answer = subst (λ os. A c.refuse.new.self words os) (sym (rest_unchanged b.items l.outcomes c.take_front.new.outcomes
          c.in-Err.ensures.2))
          (subst (λ ws. A c.refuse.new.self ws l.outcomes) (sym (rest_unchanged b.written l.words c.take_front.new.words c.in-Err.ensures.1))
          (subst (λ block. A block l.words l.outcomes) (sym c.refuse.ensures) ends));
      most = keeps.0;
      sound = keeps.1;
    }
