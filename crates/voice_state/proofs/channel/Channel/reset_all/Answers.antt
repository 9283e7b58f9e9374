use Rattle.voice_state.specs.ForProofs.Widths.{scale_of}
use Rattle.voice_state.proofs.channel.Channel.reset_all.Goals as goal

pub returns-clause-step : goal.returns-clause-step
returns-clause-step c = λ state keeps. c.reset.ensures.step _ (c.in_ok-act.ensures.step (scale_of c.args.width) state keeps)
