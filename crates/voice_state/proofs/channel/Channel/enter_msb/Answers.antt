use Rattle.std.proofs.Common.{◌∙◌, sym}
use Rattle.std.proofs.lemmas.Result.{on_ok_weaker}
use Rattle.voice_state.specs.ForProofs.Widths.{scale_of}
use Rattle.voice_state.proofs.KeptChannel.{entered_msb}
use Rattle.voice_state.proofs.channel.Channel.enter_msb.Goals as goal

pub returns-in-Some-clause-step : goal.returns-in-Some-clause-step
returns-in-Some-clause-step c =
    on_ok_weaker c.set.result
    (λ set state keeps. entered_msb (scale_of c.args.width) c.args.self.now c.set.new.self c.in-Some.param c.of_msb.result c.args.value
    state
    (sym c.selected.ensures.param ∙ c.in-Some.is) keeps c.of_msb.ensures (set state keeps.params))
    c.set.ensures.set
