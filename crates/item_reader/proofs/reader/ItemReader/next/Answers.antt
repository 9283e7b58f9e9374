use Rattle.std.proofs.Common.{◌≡◌, ◌≤◌, ap, arith, refl, subst, take, ◌∙◌}
use Rattle.item_reader.specs.Reading.{Reading}
use Rattle.item_reader.proofs.Next.{gives_out, seen_item}
use Rattle.item_reader.proofs.reader.ItemReader.next.Goals as goal

pub give-requires-clause-seen : goal.give-requires-clause-seen
give-requires-clause-seen g c =
    let i = c.self.inside in
    let size = c.asked-size.result in
    let is_size : size ≡ g.H.Cut.asked i.how (take i.window.allowed i.window.bytes) =
    c.asked-size.ensures.count ∙ ap (g.H.Cut.asked i.how) c.allowed-allowed.ensures.bytes in
    let whole : size ≤ i.window.allowed = omega (arith, c.if-size-allowed.true, c.allowed-allowed.ensures.size) in
    let seen =
    seen_item g.H.Cut.asked _ c.args.self.now (g.met.H.Cut.lengths i.how) c.self.view_is i.window.allowed size c.self.invariant.2
    is_size whole in
    seen.1

pub returns-then-size-allowed-clause-answer : goal.returns-then-size-allowed-clause-answer
returns-then-size-allowed-clause-answer g c = λ going.
    let i = c.self.inside in
    let now = c.args.self.now in
    let left = g.S.Source.left c.args.src.now in
    let size = c.asked-size.result in
    let is_size : size ≡ g.H.Cut.asked i.how (take i.window.allowed i.window.bytes) =
    c.asked-size.ensures.count ∙ ap (g.H.Cut.asked i.how) c.allowed-allowed.ensures.bytes in
    let whole : size ≤ i.window.allowed = omega (arith, c.if-size-allowed.true, c.allowed-allowed.ensures.size) in
    let seen =
    seen_item g.H.Cut.asked _ now (g.met.H.Cut.lengths i.how) c.self.view_is i.window.allowed size c.self.invariant.2
    is_size whole in
    let W : Reading g.row.H.Denot → Type 0 = λ v. v.offset ≤ v.limit in
    gives_out g.H.Cut.asked now.how now.offset now.limit now.end now.pending now.pending left left refl
    (g.met.H.Cut.lengths now.how) g.H.Cut.item_of size now c.give.new.self c.give.result seen.1
    (subst W c.self.view_is c.self.invariant.0) refl c.give.ensures.after c.give.ensures.item
