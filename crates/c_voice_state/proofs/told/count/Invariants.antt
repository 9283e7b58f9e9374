use Rattle.c_voice_state.proofs.WrittenLaws.{AreCounted}
use Rattle.c_voice_state.proofs.told.count.Given as goal

abbrev pub invariant-loop-fact : goal.invariant-loop-fact
invariant-loop-fact l = AreCounted l.fn.facts l._fact-iterator l.count
