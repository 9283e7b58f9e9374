use Rattle.std.proofs.Common.{◌∙◌, ap, sym}
use Rattle.std.proofs.lemmas.Result.{on_ok_weaker}
use Rattle.midi_meaning.specs.Messages.{with_new_lsb}
use Rattle.voice_state.specs.ForProofs.Widths.{scale_of}
use Rattle.voice_state.proofs.KeptChannel.{entered_lsb}
use Rattle.voice_state.proofs.channel.Channel.enter_lsb.Goals as goal

pub returns-in-Some-clause-step : goal.returns-in-Some-clause-step
returns-in-Some-clause-step c =
    on_ok_weaker c.set_value.result
    (λ set state keeps. entered_lsb (scale_of c.args.width) c.args.self.now c.set_value.new.self c.in-Some.param c.with_new_lsb.result
    c.args.value state
    (sym c.selected.ensures.param ∙ c.in-Some.is) keeps
    (c.with_new_lsb.ensures ∙ ap (λ old. with_new_lsb (scale_of c.args.width) old c.args.value) (c.value-old.ensures state keeps.params))
    (set state keeps.params))
    c.set_value.ensures.set
