-- A line that is put in the output alone.
use Rattle.std.proofs.Common.{◌≡◌, ℕ, List, [], ◌∷◌, ◌++◌, ap, ◌∙◌, subst}
use Rattle.outside.specs.Outside.{Rose}
use Rattle.pass_loop.specs.Places.{Places, Fails, FailsAt}
use Rattle.pass_loop.specs.Put.{Put, fault_of, in_output}
use Rattle.pass_loop.specs.declared.ends.RunEnd.{RunEnd}
use Rattle.pass_loop.specs.declared.ends.RunEnd.TheVariants.{OutputFault}

the_only : (one failed : Put) (before after : List Put) → one ∷ [] ≡ before ++ failed ∷ after → failed ≡ one
the_only one failed [] after e = cc
the_only one failed (first ∷ []) after e = cc
the_only one failed (first ∷ second ∷ before) after e = cc

-- if it failed, the count of the faults of the output rose
pub output_failed : (text : List ℕ) (end : RunEnd) (old new : Places) → FailsAt (in_output text ∷ []) end old new
    → Rose old.faults.output new.faults.output
output_failed text end old new fails =
    let F : RunEnd → Type 0 = λ e. Fails e old.faults new.faults in
    let is : end ≡ OutputFault = fails.end_is ∙ ap fault_of (the_only (in_output text) fails.failed fails.before fails.after fails.parts) in
    (subst F is fails.counts).0
