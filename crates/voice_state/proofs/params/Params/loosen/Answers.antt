use Rattle.std.proofs.lemmas.Result.{on_ok_weaker}
use Rattle.voice_state.proofs.KeptParams.{loose_keeps}
use Rattle.voice_state.proofs.params.Params.loosen.Goals as goal

pub returns-clause-loosened : goal.returns-clause-loosened
returns-clause-loosened c =
    on_ok_weaker c.put.result (λ puts state keeps. loose_keeps c.args.param.now c.args.self.now c.put.new.self c.value-value.result state
    c.put.ensures.in_range (c.value-value.ensures state keeps) puts keeps)
    c.put.ensures.put
