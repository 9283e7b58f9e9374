use Rattle.std.proofs.Common.{ℕ, refl, subst}
use Rattle.midi1_bytes.specs.Messages.{voice}
use Rattle.midi_meaning.specs.Messages.{as_they_come}
use Rattle.voice_state.specs.Rooms.{GroupIs, IsGroupFull1}
use Rattle.voice_state.specs.States.{after_message}
use Rattle.c_answers.specs.Numbers.{number_of}
use Rattle.c_voice_state.specs.Kept.{Changes}
use Rattle.c_voice_state.proofs.TakenLaws.{answered}
use Rattle.c_voice_state.proofs.bytes.take_voice.Goals as goal

pub returns : goal.returns
returns c =
    let message = c.args.message.now in
    let old = c.args.state.now in
    let new = c.take_message.new.self in
    let status = number_of c.kept_status.result in
    let G : ℕ → Type 0 =
    λ g. Changes as_they_come (after_message g (voice message)) (GroupIs old g (IsGroupFull1 message)) old status new in
    subst G c.stream_group.ensures
    (answered as_they_come (after_message c.stream_group.result (voice message))
    (λ kept. GroupIs kept c.stream_group.result (IsGroupFull1 message)) old old new status refl c.take_message.ensures.rooms
    c.take_message.result c.kept_status.ensures c.take_message.ensures.step c.take_message.ensures.unchanged c.take_message.ensures.full)
