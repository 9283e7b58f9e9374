use Rattle.std.proofs.Common.{sym, subst, false}
use Rattle.std.proofs.lemmas.Result.{on_ok_weaker}
use Rattle.midi_meaning.specs.Messages.{raised}
use Rattle.midi_meaning.specs.Packets.{voice2_at}
use Rattle.voice_state.specs.Kept.{KeepsChannel}
use Rattle.voice_state.proofs.channel.Channel.voice2.Goals as goal

pub returns-in-NoteOff-clause-step : goal.returns-in-NoteOff-clause-step
returns-in-NoteOff-clause-step c =
    on_ok_weaker c.act.result
    (λ step state keeps. subst (λ message. KeepsChannel raised c.act.new.self (voice2_at false message state)) (sym c.in-NoteOff.is)
    (step raised state keeps))
    c.act.ensures.step

pub returns-in-NoteOn-clause-step : goal.returns-in-NoteOn-clause-step
returns-in-NoteOn-clause-step c =
    on_ok_weaker c.act-in-NoteOn.result
    (λ step state keeps. subst (λ message. KeepsChannel raised c.act-in-NoteOn.new.self (voice2_at false message state))
    (sym c.in-NoteOn.is) (step raised state keeps))
    c.act-in-NoteOn.ensures.step
