use Rattle.std.proofs.Common.{ℕ, List, ap, refl, subst, sym}
use Rattle.up_translator.proofs.DirectLaws.{fits}
use Rattle.up_translator.specs.DirectWords.{packet_of}
use Rattle.up_translator.specs.Held.{UpState}
use Rattle.c_answers.specs.declared.outcome.ByteOutcome.{ByteOutcome}
use Rattle.c_translators.specs.Up.{IsAccepted}
use Rattle.c_translators.proofs.DirectByteLaws.{nothing_written, one_written}
use Rattle.c_translators.proofs.up.take_direct.Goals as goal

pub returns-in-Held-clause-answer : goal.returns-in-Held-clause-answer
returns-in-Held-clause-answer c =
    let up : UpState = c.args.up.now in
    let words : List ℕ = c.args.words.now in
    let takes = c.in-Held.ensures in (
      subst (λ (outcome : ByteOutcome). IsAccepted up c.args.byte c.args.offset words outcome words) (sym c.empty.ensures)
          (nothing_written up c.args.byte c.args.offset words c.requires.sound takes.alone),
      takes.after,
    )

pub returns-in-Message-clause-answer : goal.returns-in-Message-clause-answer
returns-in-Message-clause-answer c =
    let up : UpState = c.args.up.now in
    let words : List ℕ = c.args.words.now in
    let takes = c.in-Message.ensures in
    let put = c.put_pair-outcome in (
      subst (λ (outcome : ByteOutcome). IsAccepted up c.args.byte c.args.offset words outcome put.new.words)
          (sym (ap (λ (outcome : ByteOutcome). record outcome { written = put.result }) c.empty.ensures))
          (one_written up c.args.byte c.args.offset words (packet_of c.in-Message.voice) c.pair.result put.result put.new.words
          c.requires.sound refl (fits c.in-Message.voice takes.0) c.pair.ensures put.ensures.count put.ensures.written takes.1.alone),
      takes.1.after,
    )
