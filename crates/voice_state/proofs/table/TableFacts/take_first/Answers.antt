use Rattle.std.proofs.Common.{◌≡◌, ◌∙◌, ◌+◌, ◌≤◌, [], sym, subst, arith}
use Rattle.std.specs.Iterator.{YieldsFirst}
use Rattle.voice_state.specs.Tables.{table_fact, table_left}
use Rattle.voice_state.proofs.FactsLeft.{table_done, table_passed, table_taken}
use Rattle.voice_state.proofs.table.TableFacts.take_first.Goals as goal

pub returns-then-is_some : goal.returns-then-is_some
returns-then-is_some c =
    let it = c.loop-self.self-inside in
    let fact_of = table_fact it.content it.group it.channel in
    subst (λ old. YieldsFirst (λ left. left) old c.fact-fact.result (table_left fact_of it.table.now (it.index + 1)))
    (sym c.loop-self.invariant)
    (table_taken fact_of it.table.now it.index c.fact-fact.result c.loop-self-test.true c.fact-fact.ensures
    (sym c.is_some.ensures ∙ c.if-is_some.true))

pub loop-self-preserved : goal.loop-self-preserved
loop-self-preserved c =
    let it = c.loop-self.self-inside in
    c.loop-self.invariant
    ∙ table_passed (table_fact it.content it.group it.channel) it.table.now it.index c.fact-fact.result c.loop-self-test.true
    c.fact-fact.ensures (sym c.is_some.ensures ∙ c.if-is_some.false)

pub returns : goal.returns
returns c =
    let it = c.loop-self.self-inside in
    let end : 128 ≤ it.index = omega (arith, c.loop-self-test.false) in
    let done : table_left (table_fact it.content it.group it.channel) it.table.now it.index ≡ [] =
    table_done (table_fact it.content it.group it.channel) it.table.now it.index end in
    (c.loop-self.invariant ∙ done, done)
