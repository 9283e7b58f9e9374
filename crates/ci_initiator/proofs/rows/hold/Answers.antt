use Rattle.std.proofs.Common.{◌≡◌, ◌<◌, ◌+◌, ◌∙◌, ap, arith, length, suc, slice_set, slice_index_or}
use Rattle.ci_initiator.specs.declared.watch.Watched.{Watched}
use Rattle.ci_initiator.specs.Incoming.{incoming_of}
use Rattle.ci_initiator.specs.Known.{held_by}
use Rattle.ci_initiator.proofs.ListLaws.{first-changed, next-is, one-more}
use Rattle.ci_initiator.proofs.rows.hold.Goals as goal

pub loop-k-preserved : goal.loop-k-preserved
loop-k-preserved c =
    let change : Watched → Watched = held_by c.args.noted (incoming_of c.args.group c.args.view.now) in
    let xs = c.args.watched.now in
    let k = c.loop-k.k in
    let d : Watched = c.index-watched-k.result in
    let within : k < length xs = omega (arith, c.loop-k-test.true) in
    let more : suc k ≡ k + 1 = omega arith in
    let value : c.hold_one.new.watched ≡ change (slice_index_or xs k d) =
    c.hold_one.ensures ∙ ap (λ ws. change (slice_index_or ws k d)) c.loop-k.invariant ∙ ap change (next-is change xs k d within) in
    ap (λ ws. slice_set ws k c.hold_one.new.watched) c.loop-k.invariant
    ∙ ap (slice_set (first-changed change k xs) k) value
    ∙ one-more change xs k d within
    ∙ ap (λ n. first-changed change n xs) more
