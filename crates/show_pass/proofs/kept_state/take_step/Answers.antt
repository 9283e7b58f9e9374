use Rattle.std.proofs.Common.{ℕ, refl, sym, subst}
use Rattle.std.proofs.lemmas.Result.{on_ok_weaker}
use Rattle.voice_messages.specs.declared.voice1.Voice1.{Voice1}
use Rattle.voice_messages.specs.declared.voice1.System.TheVariants as system
use Rattle.midi1_bytes.specs.declared.step.AfterCut.{AfterCut}
use Rattle.midi1_bytes.specs.declared.step.Step.{Step}
use Rattle.midi1_bytes.specs.declared.step.Step.TheVariants.{Cut}
use Rattle.midi1_bytes.specs.Answers.{payload_of, step_view}
use Rattle.midi1_bytes.specs.Messages.{Message, common, exclusive, voice}
use Rattle.midi1_bytes.specs.Spoken.{common_in, real_time_in}
use Rattle.midi1_bytes.specs.Steps.{completed_by}
use Rattle.midi_meaning.specs.Messages.{as_they_come}
use Rattle.midi_meaning.specs.State.{with_common, with_real_time}
use Rattle.voice_state.specs.Kept.{Keeps}
use Rattle.voice_state.specs.States.{after_message, at_group}
use Rattle.show_pass.specs.KeptState.{after_completed}
use Rattle.show_pass.proofs.kept_state.take_step.Goals as goal

pub returns-in-Voice : goal.returns-in-Voice
returns-in-Voice c =
    on_ok_weaker c.apply1.result
    (λ step states keeps.
    let S : Step → Type 0 = λ s. Keeps as_they_come c.apply1.new.self (after_completed (completed_by (step_view s)) states) in
    let G : ℕ → Type 0 = λ g. Keeps as_they_come c.apply1.new.self (after_message g (voice c.message.result) states) in
    let M : Voice1 → Type 0 = λ m. Keeps as_they_come c.apply1.new.self (after_message 0 (voice m) states) in
    subst S (sym c.in-Voice.is) (subst M c.message.ensures (subst G c.stream_group.ensures (step states keeps))))
    c.apply1.ensures.step

pub returns-in-RealTime : goal.returns-in-RealTime
returns-in-RealTime c = λ states keeps.
    let S : Step → Type 0 = λ s. Keeps as_they_come c.system.new.self (after_completed (completed_by (step_view s)) states) in
    let G : ℕ → Type 0 =
    λ g. Keeps as_they_come c.system.new.self (at_group g (with_real_time (real_time_in c.in-RealTime.field-0)) states) in
    subst S (sym c.in-RealTime.is) (subst G c.stream_group-in-RealTime.ensures
    (c.system.ensures.real_time refl as_they_come states (real_time_in c.in-RealTime.field-0) keeps))

pub returns-in-Common : goal.returns-in-Common
returns-in-Common c = λ states keeps.
    let S : Step → Type 0 = λ s. Keeps as_they_come c.system-in-Common.new.self (after_completed (completed_by (step_view s)) states) in
    let G : ℕ → Type 0 =
    λ g. Keeps as_they_come c.system-in-Common.new.self (at_group g (with_common (common (common_in c.in-Common.field-0))) states) in
    subst S (sym c.in-Common.is) (subst G c.stream_group-in-Common.ensures
    (c.system-in-Common.ensures.common refl as_they_come states (common (common_in c.in-Common.field-0)) keeps))

pub returns-in-Exclusive : goal.returns-in-Exclusive
returns-in-Exclusive c = λ states keeps.
    let message : Message = exclusive (payload_of c.in-Exclusive.field-0.now) in
    let S : Step → Type 0 = λ s. Keeps as_they_come c.system-in-Exclusive.new.self (after_completed (completed_by (step_view s)) states) in
    let G : ℕ → Type 0 = λ g. Keeps as_they_come c.system-in-Exclusive.new.self (at_group g (with_common message) states) in
    subst S (sym c.in-Exclusive.is)
    (subst G c.stream_group-in-Exclusive.ensures (c.system-in-Exclusive.ensures.common refl as_they_come states message keeps))

pub returns-in-Tune : goal.returns-in-Tune
returns-in-Tune c = λ states keeps.
    let S : Step → Type 0 = λ s. Keeps as_they_come c.system-in-Tune.new.self (after_completed (completed_by (step_view s)) states) in
    let A : AfterCut → Type 0 =
    λ a. Keeps as_they_come c.system-in-Tune.new.self
    (after_completed (completed_by (step_view (Cut c.in-Cut.start c.in-Cut.what a))) states) in
    let G : ℕ → Type 0 = λ g. Keeps as_they_come c.system-in-Tune.new.self (at_group g (with_common (common system.Tune)) states) in
    subst S (sym c.in-Cut.is) (subst A (sym c.in-Tune.is)
    (subst G c.stream_group-in-Tune.ensures (c.system-in-Tune.ensures.common refl as_they_come states (common system.Tune) keeps)))
