use Rattle.std.proofs.Common.{◌∙◌, sym}
use Rattle.std.proofs.lemmas.Result.{on_ok_weaker}
use Rattle.voice_state.proofs.KeptChannel.{loosened_kept}
use Rattle.voice_state.proofs.channel.Channel.loosen.Goals as goal

pub returns-clause-step : goal.returns-clause-step
returns-clause-step c =
    on_ok_weaker c.loosen.result
    (λ step state keeps. loosened_kept c.args.self.now c.loosen.new.self c.args.param.now state
    (sym c.is_null_param.ensures ∙ c.if-is_null_param.false) keeps (step state keeps.params))
    c.loosen.ensures.loosened
