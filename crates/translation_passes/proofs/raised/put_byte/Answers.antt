use Rattle.std.proofs.Common.{Option, sym, subst}
use Rattle.midi_meaning.specs.declared.listed.BadStep.{BadStep}
use Rattle.listing_lines.specs.Refusal.{refusal_by}
use Rattle.translation_passes.specs.Raised.{Answers, ByteIsDone, byte_task}
use Rattle.translation_passes.proofs.RaisedLaws.{carries_as, task}
use Rattle.translation_passes.proofs.raised.put_byte.Goals as goal

pub returns-in-Ok-clause-answer : goal.returns-in-Ok-clause-answer
returns-in-Ok-clause-answer g c =
    let old = g.O.Outputs.places c.args.outputs.now in
    let new = g.O.Outputs.places c.put_raised.new.outputs in
    let does = (byte_task (g.P.PacketWork.IsDone c.args.offset) c.args.up.now (c.args.offset, c.args.byte) c.args.work.now).Does in
    let A : Option BadStep → Type 0 =
    λ bad. Answers (task (refusal_by bad c.args.offset) does) c.put_raised.new.work old new c.put_raised.result in
    let raises = c.in-Ok.ensures.answer in
    subst A (sym raises.accepted)
    (carries_as (ByteIsDone (g.P.PacketWork.IsDone c.args.offset) c.args.work.now c.in-Ok.raised) does c.put_raised.new.work old new
    c.put_raised.result (λ to puts done. (c.in-Ok.raised, raises, done)) c.put_raised.ensures)
