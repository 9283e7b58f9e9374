-- The running status as one number.
use Rattle.std.proofs.Common.{ℕ, ◌≡◌, ◌<◌, refl, sym, arith, Some, None}
use Rattle.std.specs.Prelude.{◌==◌}
use Rattle.std.proofs.lemmas.Bool.{cond_both, eqb-true, false_from_ne_true}
use Rattle.midi1_bytes.specs.RunningStatus.{is_running}
use Rattle.down_translator.specs.Running.{running_by}

pub some_running : (number : ℕ) → number < 256 → running_by number ≡ Some number
some_running number below =
    cond_both (number == 256) None (Some number) (λ running. running ≡ Some number)
    (λ e. absurd (omega (arith, below, eqb-true number 256 e))) (λ e. refl)

-- whether the numbers are the same
pub same_running : (number status : ℕ) → status < 256 → is_running (running_by number) status ≡ (number == status)
same_running number status below =
    cond_both (number == 256) None (Some number) (λ running. is_running running status ≡ (number == status))
    (λ e. sym (false_from_ne_true (number == status) (λ same. omega (arith, below, eqb-true number 256 e, eqb-true number status same))))
    (λ e. refl)
