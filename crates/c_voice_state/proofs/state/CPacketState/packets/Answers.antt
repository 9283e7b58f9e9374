use Rattle.std.proofs.Common.{arith}
use Rattle.packet_words.specs.Words.{words_asked}
use Rattle.c_answers.specs.Numbers.{number_of}
use Rattle.c_answers.specs.declared.status.Status.TheVariants as statuses
use Rattle.c_answers.proofs.FrontLaws.{rest_lent}
use Rattle.c_answers.proofs.ItemLaws.{cut_next, refused_silent}
use Rattle.c_voice_state.specs.Kept.{IsPacketTaken, RefusesPacket}
use Rattle.c_voice_state.proofs.BlockLaws.{has_room, one_more}
use Rattle.c_voice_state.proofs.state.CPacketState.packets.Goals as goal

pub returns-then-rest-count : goal.returns-then-rest-count
returns-then-rest-count c =
    let l = c.loop-block in
    cut_next (has_room words_asked (λ held words after. IsPacketTaken held words (number_of statuses.Done) after) RefusesPacket
    c.args.self.now c.args.words.now l.block l.self l.invariant c.loop-block-test.true) (rest_lent l.block.taken c.args.words.now)
    c.words_in_packet-count.ensures.count c.if-rest-count.true

pub loop-block-preserved : goal.loop-block-preserved
loop-block-preserved c =
    let l = c.loop-block in
    let counted = c.words_in_packet-count.ensures in
    one_more words_asked (λ held words after. IsPacketTaken held words (number_of statuses.Done) after) RefusesPacket c.args.self.now
    c.args.words.now l.block l.self l.invariant c.loop-block-test.true _ c.words_in_packet-count.result c.packet.new.self c.add.new.self
    (rest_lent l.block.taken c.args.words.now)
    (record { asked = counted.count; above = omega (arith, counted.count, counted.size); there = c.if-rest-count.false })
    c.in-Done.ensures c.add.ensures

pub returns-in_default : goal.returns-in_default
returns-in_default c =
    let l = c.loop-block in
    refused_silent (has_room words_asked (λ held words after. IsPacketTaken held words (number_of statuses.Done) after) RefusesPacket
    c.args.self.now c.args.words.now l.block l.self l.invariant c.loop-block-test.true) (rest_lent l.block.taken c.args.words.now)
    c.words_in_packet-count.ensures.count c.if-rest-count.false (c.in_default.not-Done, c.packet.ensures) c.refuse.ensures
