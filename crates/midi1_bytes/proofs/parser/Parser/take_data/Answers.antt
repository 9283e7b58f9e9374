use Rattle.std.proofs.Common.{◌≤◌, ◌+◌, arith, ℕ, List, length, take}
use Rattle.midi1_bytes.specs.Held.{running_view}
use Rattle.midi1_bytes.proofs.FrontLaws.{exclusive_kept, exclusive_size, exclusive_taken}
use Rattle.midi1_bytes.proofs.parser.Parser.take_data.Goals as goal

pub invariant_of-self : goal.invariant_of-self
invariant_of-self c =
    let taken : List ℕ = take c.leading_data_within-count.result c.args.bytes.now in
    let size : length c.self.inside.bytes.items + length taken ≤ c.self.inside.room + 1 =
    exclusive_size c.self.inside.room c.in-Exclusive.start c.self.inside.begun c.self.inside.bytes.items c.args.bytes.now
    c.leading_data_within-count.result c.in-Exclusive.is c.self.invariant.2 c.leading_data_within-count.ensures.within
    (omega (arith, c.leading_data_within-count.ensures.within_most, c.len.ensures)) in
    let kept =
    exclusive_kept c.self.inside.room c.in-Exclusive.start c.self.inside.begun c.self.inside.bytes.items taken c.append_all.new.bytes.items
    c.in-Exclusive.is c.self.invariant.1 c.self.invariant.3 c.leading_data_within-count.ensures.data_bytes size
    c.append_all.ensures.items in
    (omega (arith, c.self.invariant.0, c.append_all.ensures.capacity), kept.0, kept.1, kept.2, c.self.invariant.4)

pub returns-clause-after : goal.returns-clause-after
returns-clause-after c =
    let taken : List ℕ = take c.leading_data_within-count.result c.args.bytes.now in
    let size : length c.self.inside.bytes.items + length taken ≤ c.self.inside.room + 1 =
    exclusive_size c.self.inside.room c.in-Exclusive.start c.self.inside.begun c.self.inside.bytes.items c.args.bytes.now
    c.leading_data_within-count.result c.in-Exclusive.is c.self.invariant.2 c.leading_data_within-count.ensures.within
    (omega (arith, c.leading_data_within-count.ensures.within_most, c.len.ensures)) in
    exclusive_taken c.self.inside.room (running_view c.self.inside.running) c.in-Exclusive.start c.self.inside.begun
    c.self.inside.bytes.items taken c.append_all.new.bytes.items c.args.self.now c.in-Exclusive.is c.self.view_is c.self.invariant.1
    c.leading_data_within-count.ensures.data_bytes size c.append_all.ensures.items
