use Rattle.std.proofs.Common.{get_or, refl}
use Rattle.c_answers.proofs.ItemLaws.{byte_next, next_byte, refused_silent}
use Rattle.c_voice_state.specs.Bytes.{RefusesByte, TakesByte, bytes_in}
use Rattle.c_voice_state.proofs.BlockLaws.{has_room, one_more}
use Rattle.c_voice_state.proofs.bytes.CByteState.bytes.Goals as goal

pub loop-block-preserved : goal.loop-block-preserved
loop-block-preserved c =
    let l = c.loop-block in
    let bytes = c.args.bytes.now in
    let some = c.loop-block-test.true in
    one_more (λ byte. 1) TakesByte RefusesByte c.args.self.now bytes l.block l.self l.invariant some _ 1 c.byte.new.self c.add.new.self refl
    (byte_next bytes_in (λ first. refl) bytes l.block.taken some)
    (get_or bytes l.block.taken 0, next_byte bytes l.block.taken some, c.in-Done.ensures) c.add.ensures

pub returns-in_default : goal.returns-in_default
returns-in_default c =
    let l = c.loop-block in
    let bytes = c.args.bytes.now in
    let some = c.loop-block-test.true in
    let next = byte_next bytes_in (λ first. refl) bytes l.block.taken some in
    refused_silent (has_room (λ byte. 1) TakesByte RefusesByte c.args.self.now bytes l.block l.self l.invariant some) refl next.asked next.there
    (get_or bytes l.block.taken 0, next_byte bytes l.block.taken some, c.in_default.not-Done, c.byte.ensures) c.refuse.ensures
