use Rattle.std.proofs.Common.{length}
use Rattle.param_collector.proofs.Meaning.{unset_each}
use Rattle.param_collector.proofs.collector.unset_all.Goals as goal

pub returns : goal.returns
returns c =
    let loop = c.loop-registers in
    unset_each (length c.args.channels.now) loop.registers-index loop.channels loop.auto.channels c.loop-registers-test.false loop.invariant
