use Rattle.std.proofs.Common.{◌≡◌, ◌≤◌, [], All, OnOk, length, arith, rules, subst}
use Rattle.std.proofs.lemmas.Grind.{common_steps}
use Rattle.std.proofs.lemmas.List.{take_all}
use Rattle.midi_edge.specs.Adapters.{unwritten}
use Rattle.midi_edge.proofs.Accepting.{KeepsEach-refl, KeepsEach-set}
use Rattle.midi_edge.proofs.Tried.{TriesFirst-all, TriesFirst-more, TriesFirst-none}
use Rattle.midi_edge.proofs.adapters.folder_lanes.flush_each.Goals as goal

pub loop-sink-init : goal.loop-sink-init
loop-sink-init g c = (KeepsEach-refl g.W.Write.contents c.args.sinks.now, search rules, TriesFirst-none c.args.sinks.now)

pub loop-sink-preserved : goal.loop-sink-preserved
loop-sink-preserved g c =
    let e = c.flush_anyway-answer.ensures in (
      KeepsEach-set g.W.Write.contents _ _ _ _ _ c.loop-sink.invariant.0 e.bytes,
      grind (arith, common_steps),
      TriesFirst-more _ _ _ _ _ c.flush_anyway-answer.result c.loop-sink.invariant.2 e.written e.cause.rose,
    )

pub returns-clause-written : goal.returns-clause-written
returns-clause-written g c =
    let passed : length c.loop-sink.sink-items ≤ c.loop-sink.sink-index =
    omega (arith, c.loop-sink.auto.sink-items, c.loop-sink-test.false) in
    subst (λ xs. OnOk c.loop-sink.outcome (All (λ s. unwritten s ≡ []) xs)) (take_all c.loop-sink.sink-index c.loop-sink.sink-items passed)
    c.loop-sink.invariant.1

pub returns-clause-tried : goal.returns-clause-tried
returns-clause-tried g c =
    let passed : length c.loop-sink.sink-items ≤ c.loop-sink.sink-index =
    omega (arith, c.loop-sink.auto.sink-items, c.loop-sink-test.false) in
    TriesFirst-all _ _ _ passed c.loop-sink.invariant.2
