use Rattle.std.proofs.Common.{ℕ, Some, refl, sym, subst}
use Rattle.voice_messages.specs.declared.voice1.Voice1.{Voice1}
use Rattle.voice_messages.specs.declared.voice1.System.TheVariants as system
use Rattle.midi1_bytes.specs.declared.step.AfterCut.{AfterCut}
use Rattle.midi1_bytes.specs.declared.step.Step.{Step}
use Rattle.midi1_bytes.specs.declared.step.Step.TheVariants.{Cut}
use Rattle.midi1_bytes.specs.Answers.{payload_of, step_view}
use Rattle.midi1_bytes.specs.Messages.{Message, common, exclusive, real_time, voice}
use Rattle.midi1_bytes.specs.Spoken.{common_in, real_time_in}
use Rattle.midi_meaning.specs.Messages.{as_they_come}
use Rattle.midi_meaning.specs.State.{with_common, with_real_time}
use Rattle.voice_state.specs.Kept.{Keeps}
use Rattle.voice_state.specs.Rooms.{GroupIs, IsGroupFull1}
use Rattle.voice_state.specs.States.{after_message, at_group}
use Rattle.c_answers.specs.Numbers.{number_of}
use Rattle.c_voice_state.specs.Bytes.{after_completed, takes_step}
use Rattle.c_voice_state.specs.Kept.{Changes}
use Rattle.c_voice_state.proofs.TakenLaws.{counted}
use Rattle.c_voice_state.proofs.bytes.take_step.Goals as goal

pub returns-in-Voice : goal.returns-in-Voice
returns-in-Voice c =
    let status = number_of c.take_voice.result in
    let S : Step → Type 0 = λ s. takes_step (step_view s) c.args.state.now status c.take_voice.new.state in
    let M : Voice1 → Type 0 =
    λ m. Changes as_they_come (after_message 0 (voice m)) (GroupIs c.args.state.now 0 (IsGroupFull1 m)) c.args.state.now status
    c.take_voice.new.state in
    subst S (sym c.in-Voice.is) (subst M c.message.ensures c.take_voice.ensures)

pub returns-in-RealTime : goal.returns-in-RealTime
returns-in-RealTime c =
    let new = c.system.new.self in
    let message = real_time_in c.in-RealTime.field-0 in
    let S : Step → Type 0 = λ s. takes_step (step_view s) c.args.state.now 0 new in
    subst S (sym c.in-RealTime.is)
    (counted as_they_come (after_completed (Some (real_time message))) c.args.state.now new c.system.ensures.rooms (λ states keeps.
    let G : ℕ → Type 0 = λ g. Keeps as_they_come new (at_group g (with_real_time message) states) in
    subst G c.stream_group.ensures (c.system.ensures.real_time refl as_they_come states message keeps)))

pub returns-in-Common : goal.returns-in-Common
returns-in-Common c =
    let new = c.system-in-Common.new.self in
    let message : Message = common (common_in c.in-Common.field-0) in
    let S : Step → Type 0 = λ s. takes_step (step_view s) c.args.state.now 0 new in
    subst S (sym c.in-Common.is)
    (counted as_they_come (after_completed (Some message)) c.args.state.now new c.system-in-Common.ensures.rooms (λ states keeps.
    let G : ℕ → Type 0 = λ g. Keeps as_they_come new (at_group g (with_common message) states) in
    subst G c.stream_group-in-Common.ensures (c.system-in-Common.ensures.common refl as_they_come states message keeps)))

pub returns-in-Exclusive : goal.returns-in-Exclusive
returns-in-Exclusive c =
    let new = c.system-in-Exclusive.new.self in
    let message : Message = exclusive (payload_of c.in-Exclusive.field-0.now) in
    let S : Step → Type 0 = λ s. takes_step (step_view s) c.args.state.now 0 new in
    subst S (sym c.in-Exclusive.is)
    (counted as_they_come (after_completed (Some message)) c.args.state.now new c.system-in-Exclusive.ensures.rooms (λ states keeps.
    let G : ℕ → Type 0 = λ g. Keeps as_they_come new (at_group g (with_common message) states) in
    subst G c.stream_group-in-Exclusive.ensures (c.system-in-Exclusive.ensures.common refl as_they_come states message keeps)))

pub returns-in-Tune : goal.returns-in-Tune
returns-in-Tune c =
    let new = c.system-in-Tune.new.self in
    let message : Message = common system.Tune in
    let S : Step → Type 0 = λ s. takes_step (step_view s) c.args.state.now 0 new in
    let A : AfterCut → Type 0 = λ a. takes_step (step_view (Cut c.in-Cut.start c.in-Cut.what a)) c.args.state.now 0 new in
    subst S (sym c.in-Cut.is) (subst A (sym c.in-Tune.is)
    (counted as_they_come (after_completed (Some message)) c.args.state.now new c.system-in-Tune.ensures.rooms (λ states keeps.
    let G : ℕ → Type 0 = λ g. Keeps as_they_come new (at_group g (with_common message) states) in
    subst G c.stream_group-in-Tune.ensures (c.system-in-Tune.ensures.common refl as_they_come states message keeps))))
