use Rattle.std.proofs.Common.{◌<◌, ◌∙◌, length, get_or, refl, ap, sym, subst, arith}
use Rattle.c_answers.specs.declared.block.Block.{Block}
use Rattle.c_answers.specs.declared.outcome.ByteOutcome.{ByteOutcome}
use Rattle.c_answers.proofs.BlockLaws.{none_yet}
use Rattle.c_answers.proofs.ItemLaws.{byte_next, ends_all, found_room, found_short, next_byte, refused_next, taken_with_items}
use Rattle.c_streams.specs.Readers.{taking_by}
use Rattle.c_streams.proofs.ReaderLaws.{AreSoFar, Keeps, refuses, takes}
use Rattle.c_streams.proofs.reader.take_bytes.Goals as goal

pub loop-block-init : goal.loop-block-init
loop-block-init g c =
    let reader = g.R.ByteReader.reader in
    let held = c.args.reader.now in
    let B : Block → Type 0 = λ block. AreSoFar reader held c.args.offset c.args.bytes.now c.args.buffer.now c.args.outcomes.now block
    c.args.offset held c.args.buffer.now c.args.outcomes.now in
    subst B (sym c.nothing.ensures)
    (none_yet (taking_by reader) (Keeps reader held) held c.args.offset c.args.bytes.now c.args.buffer.now c.args.outcomes.now refl)

pub returns-then-is_full : goal.returns-then-is_full
returns-then-is_full g c =
    let l = c.loop-block in
    found_short l.invariant c.loop-block-test.true (c.most_written-most.ensures ∙ sym l.invariant.keeps) l.auto.buffer l.auto.outcomes
    c.is_full.ensures.answer c.if-is_full.true (c.is_full.ensures.short c.if-is_full.true)

pub loop-block-preserved : goal.loop-block-preserved
loop-block-preserved g c =
    let l = c.loop-block in
    let reader = g.R.ByteReader.reader in
    let bytes = c.args.bytes.now in
    let has = found_room l.invariant c.loop-block-test.true (c.most_written-most.ensures ∙ sym l.invariant.keeps) l.auto.buffer
    l.auto.outcomes c.is_full.ensures.answer c.if-is_full.false (c.is_full.ensures.same c.if-is_full.false) in
    let taken = c.is_full.new.self.taken in
    let reads = c.in-Ok.ensures.answer in
    taken_with_items has refl c.put_outcome-count.ensures.count c.put_outcome-count.ensures.written
    (byte_next (taking_by reader) (λ first. refl) bytes taken has.some)
    (takes reader l.reader l.next (get_or bytes taken 0) _ _ _ c.take.new.self (next_byte bytes taken has.some) c.take.ensures.after
    c.in-Ok.outcome reads)
    (c.take.ensures.most ∙ l.invariant.keeps) (ap (λ (o : ByteOutcome). o.written) reads.1) reads.2 c.add.ensures

pub returns-in-Err : goal.returns-in-Err
returns-in-Err g c =
    let l = c.loop-block in
    let reader = g.R.ByteReader.reader in
    let bytes = c.args.bytes.now in
    let has = found_room l.invariant c.loop-block-test.true (c.most_written-most.ensures ∙ sym l.invariant.keeps) l.auto.buffer
    l.auto.outcomes c.is_full.ensures.answer c.if-is_full.false (c.is_full.ensures.same c.if-is_full.false) in
    let taken = c.is_full.new.self.taken in
    let reads = c.in-Err.ensures.answer in
    let next = byte_next (taking_by reader) (λ first. refl) bytes taken has.some in
    refused_next has refl next.asked next.there
    (refuses reader l.reader l.next (get_or bytes taken 0) _ _ _ c.take.new.self (next_byte bytes taken has.some) c.take.ensures.after
    c.in-Err.why reads) reads.1 c.refuse.ensures

pub returns : goal.returns
returns g c = ends_all c.loop-block.invariant (omega (arith, c.loop-block-test.false))
