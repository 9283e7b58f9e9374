use Rattle.std.proofs.lemmas.Result.{on_ok_weaker}
use Rattle.voice_state.proofs.KeptParams.{set_keeps}
use Rattle.voice_state.proofs.params.Params.set.Goals as goal

pub returns-clause-set : goal.returns-clause-set
returns-clause-set c =
    on_ok_weaker c.put.result
    (λ puts state keeps. set_keeps c.args.param.now c.args.self.now c.put.new.self c.args.value state c.put.ensures.in_range puts keeps)
    c.put.ensures.put
