use Rattle.std.proofs.Common.{Some, refl, sym, subst}
use Rattle.std.proofs.lemmas.Result.{on_ok_weaker}
use Rattle.midi1_bytes.specs.Answers.{step_view}
use Rattle.show_pass.specs.KeptState.{Kept, KeepsStep}
use Rattle.show_pass.proofs.kept_state.keep_step.Goals as goal

pub returns-in-Some-clause-keeps : goal.returns-in-Some-clause-keeps
returns-in-Some-clause-keeps c =
    let K : Kept → Type 0 = λ kept. KeepsStep (step_view c.args.step.now) kept (Some c.take_step.new.state) in
    on_ok_weaker c.take_step.result (λ step. subst K (sym c.in-Some.is) (refl, step)) c.take_step.ensures
