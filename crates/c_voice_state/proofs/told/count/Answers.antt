use Rattle.std.proofs.Common.{ℕ, List, sym, subst}
use Rattle.voice_state.specs.declared.fact.Fact.{Fact}
use Rattle.c_voice_state.proofs.WrittenLaws.{AreCounted, one_counted}
use Rattle.c_voice_state.proofs.told.count.Goals as goal

pub loop-fact-preserved : goal.loop-fact-preserved
loop-fact-preserved c =
    let l = c.loop-fact in
    let facts = c.args.facts in let left = c.next.new.self in
    let L : List Fact → Type 0 = λ left. AreCounted facts left l.count in
    let N : ℕ → Type 0 = λ count. AreCounted facts left count in
    subst N (sym c.saturating_add-count.ensures)
    (one_counted facts l.count c.in-Some._fact left (subst L c.in-Some.ensures.steps l.invariant))
