use Rattle.std.proofs.Common.{◌∙◌, sym}
use Rattle.voice_state.proofs.KeptChannel.{set_kept}
use Rattle.voice_state.proofs.channel.Channel.set_param.Goals as goal

pub returns-clause-step : goal.returns-clause-step
returns-clause-step c = λ state keeps.
    set_kept c.args.self.now c.set.new.self c.select.new.self c.args.param.now c.args.value state
    (sym c.is_null_param.ensures ∙ c.if-is_null_param.false) keeps c.select.ensures (c.in_ok-set.ensures.set state keeps.params)
