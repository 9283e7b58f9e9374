use Rattle.std.proofs.Common.{sym, subst, None}
use Rattle.std.proofs.lemmas.Result.{on_ok_weaker}
use Rattle.midi_meaning.specs.Messages.{raised}
use Rattle.voice_state.specs.Kept.{Keeps}
use Rattle.voice_state.specs.States.{after_packet}
use Rattle.voice_state.proofs.KeptGroups.{system_kept}
use Rattle.voice_state.proofs.running.VoiceState.take_packet.Goals as goal

pub returns-in-System-clause-step : goal.returns-in-System-clause-step
returns-in-System-clause-step c = λ states keeps.
    subst (λ packet. Keeps raised c.system.new.self (after_packet packet None states)) (sym c.in-System.is)
    (system_kept c.system.new.self c.in-System.group c.in-System.message states c.is_real_time.result c.is_real_time.ensures
    (λ is message. c.system.ensures.common is raised states message keeps)
    (λ is message. c.system.ensures.real_time is raised states message keeps))

pub returns-in-Voice1-clause-step : goal.returns-in-Voice1-clause-step
returns-in-Voice1-clause-step c =
    on_ok_weaker c.voice1.result
    (λ step states keeps. subst (λ packet. Keeps raised c.voice1.new.self (after_packet packet None states)) (sym c.in-Voice1.is)
    (step states keeps))
    c.voice1.ensures.step

pub returns-in-Voice2-clause-step : goal.returns-in-Voice2-clause-step
returns-in-Voice2-clause-step c =
    on_ok_weaker c.voice2.result
    (λ step states keeps. subst (λ packet. Keeps raised c.voice2.new.self (after_packet packet None states)) (sym c.in-Voice2.is)
    (step states keeps))
    c.voice2.ensures.step
