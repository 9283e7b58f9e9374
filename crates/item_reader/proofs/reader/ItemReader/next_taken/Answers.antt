use Rattle.std.proofs.Common.{◌≡◌, ◌≤◌, None, ap, subst, take, ◌∙◌}
use Rattle.item_reader.specs.Reading.{Reading, allowed_bytes, cursor}
use Rattle.item_reader.proofs.Next.{brought_given, brought_goes_on, brought_seen, is_brought}
use Rattle.item_reader.proofs.reader.ItemReader.next_taken.Goals as goal

pub give-requires-clause-seen : goal.give-requires-clause-seen
give-requires-clause-seen g c =
    let i = c.self.inside in
    let old = c.args.self.now in
    let new = c.more.new.self in
    let before = cursor old (g.S.Source.left c.args.src.now) in
    let after = cursor new (g.S.Source.left c.more.new.src) in
    let going : old.end ≡ None = brought_goes_on _ _ old.end _ c.if-not-branch.false c.in_ok-more.ensures.again in
    let brought = is_brought (g.H.Cut.asked old.how) before after _ c.if-not-branch.false (c.in_ok-more.ensures.answer going) in
    let N : Reading g.row.H.Denot → Type 0 = λ r. i.window.allowed ≡ allowed_bytes r in
    let A : Reading g.row.H.Denot → Type 0 = λ r. c.asked-size.result ≡ g.H.Cut.asked r.how (take i.window.allowed r.pending) in
    let seen =
    brought_seen g.H.Cut.asked before after (g.met.H.Cut.lengths new.how) brought i.window.allowed c.asked-size.result
    (subst N c.self.view_is c.self.invariant.2)
    (subst A c.self.view_is (c.asked-size.ensures.count ∙ ap (g.H.Cut.asked i.how) c.allowed.ensures.bytes)) in
    seen.1

pub returns-clause-answer : goal.returns-clause-answer
returns-clause-answer g c = λ going.
    let i = c.self.inside in
    let old = c.args.self.now in
    let new = c.more.new.self in
    let before = cursor old (g.S.Source.left c.args.src.now) in
    let after = cursor new (g.S.Source.left c.more.new.src) in
    let brought = is_brought (g.H.Cut.asked old.how) before after _ c.if-not-branch.false (c.in_ok-more.ensures.answer going) in
    let W : Reading g.row.H.Denot → Type 0 = λ r. r.offset ≤ r.limit in
    let N : Reading g.row.H.Denot → Type 0 = λ r. i.window.allowed ≡ allowed_bytes r in
    let A : Reading g.row.H.Denot → Type 0 = λ r. c.asked-size.result ≡ g.H.Cut.asked r.how (take i.window.allowed r.pending) in
    let seen =
    brought_seen g.H.Cut.asked before after (g.met.H.Cut.lengths new.how) brought i.window.allowed c.asked-size.result
    (subst N c.self.view_is c.self.invariant.2)
    (subst A c.self.view_is (c.asked-size.ensures.count ∙ ap (g.H.Cut.asked i.how) c.allowed.ensures.bytes)) in
    brought_given g.H.Cut.asked g.H.Cut.item_of g.met.H.Cut.lengths before after c.give.new.self c.asked-size.result c.give.result brought
    (subst W c.self.view_is c.self.invariant.0) seen.1 c.give.ensures.after c.give.ensures.item
