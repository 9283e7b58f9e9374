use Rattle.std.proofs.Common.{refl, ap, arith}
use Rattle.c_answers.proofs.FrontLaws.{rest_lent}
use Rattle.c_answers.proofs.ItemLaws.{cut_next, ends_all, found_room, found_short, refused_next, taken_with_item}
use Rattle.c_endpoint.specs.declared.replies.PacketReplies.{PacketReplies}
use Rattle.c_endpoint.proofs.endpoint.take_all.Goals as goal

pub returns-then-is_full : goal.returns-then-is_full
returns-then-is_full c =
    let l = c.loop-block in
    found_short l.invariant c.loop-block-test.true refl l.auto.buffer l.auto.replies c.is_full.ensures.answer c.if-is_full.true
    (c.is_full.ensures.short c.if-is_full.true)

pub returns-then-rest-count : goal.returns-then-rest-count
returns-then-rest-count c =
    let l = c.loop-block in
    let has = found_room l.invariant c.loop-block-test.true refl l.auto.buffer l.auto.replies c.is_full.ensures.answer c.if-is_full.false
    (c.is_full.ensures.same c.if-is_full.false) in
    cut_next has (rest_lent c.is_full.new.self.taken c.args.words.now) c.words_in_packet-count.ensures.count c.if-rest-count.true

pub loop-block-preserved : goal.loop-block-preserved
loop-block-preserved c =
    let l = c.loop-block in
    let has = found_room l.invariant c.loop-block-test.true refl l.auto.buffer l.auto.replies c.is_full.ensures.answer c.if-is_full.false
    (c.is_full.ensures.same c.if-is_full.false) in
    let counted = c.words_in_packet-count.ensures in
    let takes = c.in-Ok.ensures.1 in
    taken_with_item has (rest_lent c.is_full.new.self.taken c.args.words.now) refl l.auto.replies
    (record { asked = counted.count; above = omega (arith, counted.count, counted.size); there = c.if-rest-count.false })
    (c.in-Ok.told, takes, refl) tt (ap (λ (r : PacketReplies). r.written) takes.replied.told) c.in-Ok.ensures.2 c.add.ensures

pub returns-in-Err : goal.returns-in-Err
returns-in-Err c =
    let l = c.loop-block in
    let has = found_room l.invariant c.loop-block-test.true refl l.auto.buffer l.auto.replies c.is_full.ensures.answer c.if-is_full.false
    (c.is_full.ensures.same c.if-is_full.false) in
    refused_next has (rest_lent c.is_full.new.self.taken c.args.words.now) c.words_in_packet-count.ensures.count c.if-rest-count.false
    c.in-Err.ensures.0 c.in-Err.ensures.1 c.refuse.ensures

pub returns : goal.returns
returns c = ends_all c.loop-block.invariant (omega (arith, c.loop-block-test.false))
