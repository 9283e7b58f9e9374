use Rattle.std.proofs.Common.{ap}
use Rattle.param_collector.proofs.Meaning.{fresh_again, pairs_again, sizes_again, start_kept, unset_again}
use Rattle.param_collector.proofs.collector.Collector.reset.Goals as goal

pub invariant_of-self : goal.invariant_of-self
invariant_of-self c =
    let held = c.self.inside in
    let sizes = c.self.invariant in
    let lent = c.deref_mut.ensures in
    sizes_again held.paired _ c.clear.new.self c.clear-2.new.self
    (unset_again held.registers c.deref_mut.result.now c.unset_all.new.channels lent.value lent.len sizes.0 c.unset_all.ensures)
    c.clear.ensures (pairs_again held.paired held.pairs c.clear-2.new.self sizes.2 sizes.3 c.clear-2.ensures)

pub returns-clause-fresh : goal.returns-clause-fresh
returns-clause-fresh c =
    let held = c.self.inside in
    let sizes = c.self.invariant in
    let lent = c.deref_mut.ensures in
    fresh_again held.paired c.args.self.now.paired _ c.clear.new.self c.clear-2.new.self
    (unset_again held.registers c.deref_mut.result.now c.unset_all.new.channels lent.value lent.len sizes.0 c.unset_all.ensures)
    c.clear.ensures (pairs_again held.paired held.pairs c.clear-2.new.self sizes.2 sizes.3 c.clear-2.ensures)
    (ap (λ holding. holding.paired) c.self.view_is)

pub returns-clause-holding : goal.returns-clause-holding
returns-clause-holding c =
    let held = c.self.inside in
    let sizes = c.self.invariant in
    let lent = c.deref_mut.ensures in
    let again =
    sizes_again held.paired _ c.clear.new.self c.clear-2.new.self
    (unset_again held.registers c.deref_mut.result.now c.unset_all.new.channels lent.value lent.len sizes.0 c.unset_all.ensures)
    c.clear.ensures (pairs_again held.paired held.pairs c.clear-2.new.self sizes.2 sizes.3 c.clear-2.ensures) in
    (again.0, again.1, again.2)

pub returns-clause-start : goal.returns-clause-start
returns-clause-start c =
    let held = c.self.inside in
    let sizes = c.self.invariant in
    let lent = c.deref_mut.ensures in
    start_kept _ c.clear.new.self held.paired c.clear-2.new.self
    (unset_again held.registers c.deref_mut.result.now c.unset_all.new.channels lent.value lent.len sizes.0 c.unset_all.ensures)
    c.clear.ensures (pairs_again held.paired held.pairs c.clear-2.new.self sizes.2 sizes.3 c.clear-2.ensures)
