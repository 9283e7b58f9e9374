use Rattle.std.proofs.Common.{arith, ◌≡◌, ◌∙◌, ap, replicate}
use Rattle.midi_meaning.specs.Registers.{unset_registers}
use Rattle.param_collector.proofs.Meaning.{start_kept}
use Rattle.param_collector.proofs.collector.Collector.new.Goals as goal

pub returns-clause-start : goal.returns-clause-start
returns-clause-start c =
    let past = c.loop-test.false in
    let end = c.loop.auto.counter-end in
    let all : c.loop.counter ≡ 16 = omega arith in
    start_kept c.loop.registers.items c.in_ok-msbs.msbs c.args.paired c.in_ok-pairs.pairs
    (c.loop.invariant ∙ ap (λ count. replicate count unset_registers) all) c.in_ok-msbs.ensures.table c.in_ok-pairs.ensures.table
