use Rattle.std.proofs.Common.{◌≤◌, length}
use Rattle.c_voice_state.proofs.WrittenLaws.{AreWritten}
use Rattle.c_voice_state.proofs.told.write_facts.Given as goal

abbrev pub invariant-loop-fact : goal.invariant-loop-fact
invariant-loop-fact l = length l.fn.facts ≤ length l.fn.buffer → AreWritten l.fn.facts l.fn.buffer l.fact-iterator l.k l.buffer
