use Rattle.std.proofs.Common.{◌≡◌, ◌-◌}
use Rattle.voice_state.specs.Tables.{table_fact, table_left}
use Rattle.voice_state.proofs.table.TableFacts.take_first.Given as goal

abbrev pub invariant-loop-self : goal.invariant-loop-self
invariant-loop-self l =
    let it = l.self-inside in
    l.fn.self ≡ table_left (table_fact it.content it.group it.channel) it.table.now it.index

abbrev pub decreases-loop-self : goal.decreases-loop-self
decreases-loop-self l = 128 - l.self-inside.index
