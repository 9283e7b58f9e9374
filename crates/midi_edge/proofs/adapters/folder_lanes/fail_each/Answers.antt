use Rattle.std.proofs.Common.{◌≡◌, ◌≤◌, true, All, length, arith, rules, slice_index_or, subst}
use Rattle.std.proofs.lemmas.Grind.{common_steps}
use Rattle.std.proofs.lemmas.List.{take_all}
use Rattle.midi_edge.specs.Adapters.{has_failed_early}
use Rattle.midi_edge.proofs.Accepting.{KeepsEach-refl, KeepsEach-set, kept_without_room}
use Rattle.midi_edge.proofs.adapters.folder_lanes.fail_each.Goals as goal

pub loop-sink-init : goal.loop-sink-init
loop-sink-init g c = (KeepsEach-refl g.W.Write.contents c.args.sinks.now, search rules)

pub loop-sink-preserved : goal.loop-sink-preserved
loop-sink-preserved g c = (
  KeepsEach-set g.W.Write.contents _ _ _ _ _ c.loop-sink.invariant.0
      (kept_without_room g.W.Write.contents (slice_index_or c.loop-sink.sink-items c.loop-sink.sink-index c.sink-item.result)
      c.fail_early.new.self c.fail_early.ensures.rest),
  grind (arith, common_steps),
)

pub returns-clause-early : goal.returns-clause-early
returns-clause-early g c =
    let passed : length c.loop-sink.sink-items ≤ c.loop-sink.sink-index =
    omega (arith, c.loop-sink.auto.sink-items, c.loop-sink-test.false) in
    subst (All (λ s. has_failed_early s ≡ true)) (take_all c.loop-sink.sink-index c.loop-sink.sink-items passed)
    c.loop-sink.invariant.1
