use Rattle.std.proofs.Common.{◌∙◌, ◌-◌, List, ℕ, refl, sym, subst, arith, length, take}
use borrow.Rule.Slice.PartMut.{mid_of}
use Rattle.std.specs.Prelude.{Err, Ok}
use Rattle.c_answers.proofs.FrontLaws.{rest_lent}
use Rattle.c_answers.proofs.ItemLaws.{cut_next, found_room, found_short, lent, refused_next, taken_with_item}
use Rattle.c_streams.specs.ForProofs.Joined.{TakesPacket}
use Rattle.c_streams.proofs.JoinLaws.{joins, part_written, refuses, unchanged}
use Rattle.c_streams.proofs.sysex8.take_all.Goals as goal

pub returns-then-is_full-clause-answer : goal.returns-then-is_full-clause-answer
returns-then-is_full-clause-answer c =
    let l = c.loop-block in
    found_short l.invariant c.loop-block-test.true (c.requires.most ∙ sym l.invariant.keeps) l.auto.buffer l.auto.parts
    c.is_full.ensures.answer c.if-is_full.true (c.is_full.ensures.short c.if-is_full.true)

pub returns-then-rest-count-clause-answer : goal.returns-then-rest-count-clause-answer
returns-then-rest-count-clause-answer c =
    let l = c.loop-block in
    let has = found_room l.invariant c.loop-block-test.true (c.requires.most ∙ sym l.invariant.keeps) l.auto.buffer l.auto.parts
    c.is_full.ensures.answer c.if-is_full.false (c.is_full.ensures.same c.if-is_full.false) in
    cut_next has (rest_lent c.is_full.new.self.taken c.args.words.now) c.words_in_packet-count.ensures.count c.if-rest-count.true

pub loop-block-preserved : goal.loop-block-preserved
loop-block-preserved c =
    let l = c.loop-block in
    let has = found_room l.invariant c.loop-block-test.true (c.requires.most ∙ sym l.invariant.keeps) l.auto.buffer l.auto.parts
    c.is_full.ensures.answer c.if-is_full.false (c.is_full.ensures.same c.if-is_full.false) in
    let counted = c.words_in_packet-count.ensures in
    let T : List ℕ → Type 0 = λ own. TakesPacket l.streams own l.next (lent has) (Ok c.in-Ok.part) c.take.new.buffer c.take.new.streams in
    let rest : List ℕ = mid_of c.is_full.new.self.taken (length c.args.words.now - c.is_full.new.self.taken) c.args.words.now in
    let own : List ℕ = take c.words_in_packet-count.result rest in
    let taken : T own = subst T c.from_slice-own.ensures c.in-Ok.ensures.reply in
    taken_with_item has (rest_lent c.is_full.new.self.taken c.args.words.now) refl l.auto.parts
    (record { asked = counted.count; above = omega (arith, counted.count, counted.size); there = c.if-rest-count.false })
    (joins l.streams own l.next (lent has) c.in-Ok.part c.take.new.buffer c.take.new.streams taken)
    (c.take.ensures.room ∙ l.invariant.keeps)
    (part_written l.streams own l.next (lent has) c.in-Ok.part c.take.new.buffer c.take.new.streams taken) taken.2.front c.add.ensures

pub returns-in-Err-clause-answer : goal.returns-in-Err-clause-answer
returns-in-Err-clause-answer c =
    let l = c.loop-block in
    let has = found_room l.invariant c.loop-block-test.true (c.requires.most ∙ sym l.invariant.keeps) l.auto.buffer l.auto.parts
    c.is_full.ensures.answer c.if-is_full.false (c.is_full.ensures.same c.if-is_full.false) in
    let T : List ℕ → Type 0 =
    λ own. TakesPacket l.streams own l.next (lent has) (Err c.in-Err.field-0) c.take.new.buffer c.take.new.streams in
    let rest : List ℕ = mid_of c.is_full.new.self.taken (length c.args.words.now - c.is_full.new.self.taken) c.args.words.now in
    let own : List ℕ = take c.words_in_packet-count.result rest in
    let taken : T own = subst T c.from_slice-own.ensures c.in-Err.ensures.reply in
    refused_next has (rest_lent c.is_full.new.self.taken c.args.words.now) c.words_in_packet-count.ensures.count c.if-rest-count.false
    (refuses l.streams own l.next (lent has) c.in-Err.field-0 c.take.new.buffer c.take.new.streams taken)
    (unchanged l.streams own l.next (lent has) c.in-Err.field-0 c.take.new.buffer c.take.new.streams taken) c.refuse.ensures
