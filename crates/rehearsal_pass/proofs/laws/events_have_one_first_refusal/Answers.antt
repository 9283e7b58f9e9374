use Rattle.pass_loop.specs.ForProofs.FirstRefusalLaws.{one_refusal}
use Rattle.rehearsal_pass.specs.Events.{called_cutting}
use Rattle.rehearsal_pass.specs.Rehearse.{rehearsing}
use Rattle.rehearsal_pass.proofs.laws.events_have_one_first_refusal.Goals as goal

pub returns : goal.returns
returns c = λ setup. one_refusal called_cutting (rehearsing setup) c.events_are_cut_once.ensures
