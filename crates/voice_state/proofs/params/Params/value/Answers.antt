use Rattle.std.proofs.Common.{◌∙◌, sym}
use Rattle.voice_state.proofs.KeptParams.{value_read}
use Rattle.voice_state.proofs.params.Params.value.Goals as goal

pub returns-in-Some : goal.returns-in-Some
returns-in-Some c =
    λ state keeps. value_read c.args.self.now c.args.param.now state _ c.get.ensures.in_range (sym c.in-Some.is ∙ c.get.ensures.state) keeps

pub returns-in-None : goal.returns-in-None
returns-in-None c =
    λ state keeps. value_read c.args.self.now c.args.param.now state _ c.get.ensures.in_range (sym c.in-None.is ∙ c.get.ensures.state) keeps
