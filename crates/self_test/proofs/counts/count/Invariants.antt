use Rattle.self_test.specs.Counts.{first_packets}
use Rattle.self_test.specs.Generator.{HasGiven}
use Rattle.self_test.specs.ForProofs.Held.{HasTaken}
use Rattle.self_test.proofs.counts.count.Given as goal

abbrev pub invariant-loop-index : goal.invariant-loop-index
invariant-loop-index l = record {
  given : HasGiven l.seed l.index l.generator;
  taken : HasTaken (first_packets l.seed l.index) l.course;
}
