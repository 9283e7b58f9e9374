use Rattle.std.proofs.Common.{◌<◌, ◌*◌, ◌+◌, ◌||◌, ◌∙◌, ap, sym, arith, drop, length}
use Rattle.std.proofs.lemmas.List.{length-drop}
use Rattle.ci_initiator.specs.Incoming.{lists}
use Rattle.ci_initiator.proofs.ListLaws.{lists-at, lists-short}
use Rattle.ci_initiator.proofs.rows.lists.Goals as goal

pub returns-then-has_id_at : goal.returns-then-has_id_at
returns-then-has_id_at c =
    sym (lists-at c.args.id.now.bytes c.args.ids.now c.loop-k.k c.loop-k-test.true
    ∙ ap (λ b. b || lists c.args.id.now.bytes (drop (5 * (c.loop-k.k + 1)) c.args.ids.now)) (sym c.has_id_at.ensures ∙ c.if-has_id_at.true))
    ∙ c.loop-k.invariant

pub loop-k-preserved : goal.loop-k-preserved
loop-k-preserved c =
    sym (lists-at c.args.id.now.bytes c.args.ids.now c.loop-k.k c.loop-k-test.true
    ∙ ap (λ b. b || lists c.args.id.now.bytes (drop (5 * (c.loop-k.k + 1)) c.args.ids.now))
    (sym c.has_id_at.ensures ∙ c.if-has_id_at.false))
    ∙ c.loop-k.invariant

pub returns : goal.returns
returns c =
    let few : length (drop (5 * c.loop-k.k) c.args.ids.now) < 5 =
    omega (arith, c.loop-k-test.false, length-drop (5 * c.loop-k.k) c.args.ids.now) in
    sym (lists-short c.args.id.now.bytes (drop (5 * c.loop-k.k) c.args.ids.now) few) ∙ c.loop-k.invariant
