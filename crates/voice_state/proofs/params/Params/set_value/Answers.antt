use Rattle.std.proofs.lemmas.Result.{on_ok_weaker}
use Rattle.voice_state.proofs.KeptParams.{value_keeps}
use Rattle.voice_state.proofs.params.Params.set_value.Goals as goal

pub returns-clause-set : goal.returns-clause-set
returns-clause-set c =
    on_ok_weaker c.put.result (λ puts state keeps. value_keeps c.args.param.now c.args.self.now c.put.new.self c.args.value
    c.is_loose-loose.result state c.put.ensures.in_range (c.is_loose-loose.ensures state keeps) puts keeps)
    c.put.ensures.put
