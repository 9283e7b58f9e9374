use Rattle.std.proofs.Common.{sym, subst, false}
use Rattle.std.proofs.lemmas.Result.{on_ok_weaker}
use Rattle.midi_meaning.specs.Controllers.{pairing}
use Rattle.midi_meaning.specs.Messages.{raised}
use Rattle.midi_meaning.specs.Packets.{control2}
use Rattle.midi_meaning.specs.Roles.{role_in}
use Rattle.voice_state.specs.Kept.{KeepsChannel}
use Rattle.voice_state.proofs.channel.Channel.control2_as.Goals as goal

pub returns-in-ChannelMode-clause-step : goal.returns-in-ChannelMode-clause-step
returns-in-ChannelMode-clause-step c =
    on_ok_weaker c.act.result
    (λ step state keeps. subst
    (λ role. KeepsChannel raised c.act.new.self (control2 (pairing false (role_in role)) c.args.index c.args.value state))
    (sym c.in-ChannelMode.is) (step raised state keeps))
    c.act.ensures.step
