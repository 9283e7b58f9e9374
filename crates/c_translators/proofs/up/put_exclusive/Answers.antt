use Rattle.std.proofs.Common.{◌≡◌, ◌+◌, ◌∙◌, ◌++◌, ℕ, List, take, sym, ap, subst, arith}
use Rattle.c_answers.specs.Fronts.{with_front}
use Rattle.c_translators.proofs.EncodedLaws.{AreCut, all_cut, cut_more, cut_part, cut_past, part_fits}
use Rattle.c_answers.proofs.FrontLaws.{rest_given_back, rest_lent}
use Rattle.c_translators.proofs.up.put_exclusive.Goals as goal

pub exclusive_words-pair-requires : goal.exclusive_words-pair-requires
exclusive_words-pair-requires c =
    let part = cut_part c.args.group c.args.payload.now c.loop-form.k c.in-Some.form c.in-Some.bytes c.in-Some.ensures in
    part_fits c.args.group c.args.payload.now c.loop-form.k c.in-Some.form c.in-Some.bytes (omega arith) c.requires.data_bytes part

pub loop-form-preserved : goal.loop-form-preserved
loop-form-preserved c =
    let l = c.loop-form in
    let part = cut_part c.args.group c.args.payload.now l.k c.in-Some.form c.in-Some.bytes c.in-Some.ensures in
    let pair = c.exclusive_words-pair.result in
    let lent : c.put_words-written.new.buffer ≡ with_front pair _ = c.put_words-written.ensures.written in
    let more =
    cut_more c.args.group c.args.payload.now c.args.words.now l.k l.written l.words c.in-Some.form c.in-Some.bytes pair
    c.put_words-written.new.buffer l.invariant part
    c.exclusive_words-pair.ensures (omega arith) (lent ∙ ap (with_front pair) (rest_lent l.written l.words)) in
    let two : c.put_words-written.result ≡ 2 = omega (arith, c.put_words-written.ensures.count) in
    let W : List ℕ → Type 0 =
    λ words. AreCut c.args.group c.args.payload.now c.args.words.now (l.k + 1) (l.written + c.put_words-written.result) words in
    let N : ℕ → Type 0 =
    λ n. AreCut c.args.group c.args.payload.now c.args.words.now (l.k + 1) (l.written + n)
    (take l.written l.words ++ c.put_words-written.new.buffer) in
    subst W (sym (rest_given_back l.written l.words c.put_words-written.new.buffer)) (subst N (sym two) more)

pub returns-in-None : goal.returns-in-None
returns-in-None c =
    let l = c.loop-form in
    all_cut c.args.group c.args.payload.now c.args.words.now l.k l.written l.words l.invariant
    (cut_past c.args.payload.now l.k c.in-None.ensures)
