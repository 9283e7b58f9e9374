use Rattle.std.proofs.Common.{List, sym, subst, arith}
use Rattle.std.specs.Prelude.{◌+◌, slice_set}
use Rattle.voice_state.specs.declared.fact.Fact.{Fact}
use Rattle.c_voice_state.specs.declared.fact_numbers.FactNumbers.{FactNumbers}
use Rattle.c_voice_state.proofs.WrittenLaws.{AreWritten, one_more, place}
use Rattle.c_voice_state.proofs.told.write_facts.Goals as goal

pub loop-fact-preserved-then-k-buffer : goal.loop-fact-preserved-then-k-buffer
loop-fact-preserved-then-k-buffer c =
    λ fits.
    let l = c.loop-fact in
    let facts = c.args.facts in let old = c.args.buffer.now in
    let left = c.next.new.self in
    let L : List Fact → Type 0 = λ left. AreWritten facts old left l.k l.buffer in
    let N : FactNumbers → Type 0 = λ one. AreWritten facts old left (l.k + 1) (slice_set l.buffer l.k one) in
    subst N (sym c.of.ensures) (one_more facts old fits l.k l.buffer c.in-Some.fact left (subst L c.in-Some.ensures.steps (l.invariant fits)))

pub loop-fact-preserved : goal.loop-fact-preserved
loop-fact-preserved c =
    λ fits.
    let l = c.loop-fact in
    let facts = c.args.facts in let old = c.args.buffer.now in
    let L : List Fact → Type 0 = λ left. AreWritten facts old left l.k l.buffer in
    absurd (omega (
      arith,
      l.auto.buffer,
      c.if-k-buffer.false,
      place facts old fits l.k l.buffer c.in-Some.fact c.next.new.self (subst L c.in-Some.ensures.steps (l.invariant fits)),
    ))
