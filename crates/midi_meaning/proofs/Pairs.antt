-- The roles of the MSBs and LSBs of controllers, by their indexes.
use Rattle.std.proofs.Common.{ℕ, ◌+◌, ◌-◌, ◌≡◌, ◌<◌, ◌≤◌, ◌∙◌, ap, sym, refl, Bool, true, false, cond, arith}
use Rattle.std.proofs.lemmas.Bool.{agree_below, agree_below_at}
use Rattle.std.proofs.lemmas.Bool.Decides.{nat_tests}
use Rattle.bit_scaling.specs.Scaling.{up}
use Rattle.bit_scaling.specs.ForProofs.Scaled.{down14_up}
use Rattle.midi_meaning.specs.Agreement.{controller_down, value_down}
use Rattle.midi_meaning.specs.Registers.{Registers}
use Rattle.midi_meaning.specs.Controllers.{Role, coarse, fine, pairing, role_of}
use Rattle.midi_meaning.specs.Roles.{registers_after}
use Rattle.midi_meaning.specs.Refusal.{bad_role}

-- ---- roles that are seen if controllers are paired

is_coarse : Role → Bool
is_coarse coarse = true
is_coarse _ = false

is_fine : Role → Bool
is_fine fine = true
is_fine _ = false

is_coarse-true : (r : Role) → is_coarse r ≡ true → r ≡ coarse
unfolding is_coarse
is_coarse-true coarse e = refl
is_coarse-true _ e = cc

is_fine-true : (r : Role) → is_fine r ≡ true → r ≡ fine
unfolding is_fine
is_fine-true fine e = refl
is_fine-true _ e = cc

-- without pairs no controller is seen as an MSB or LSB
pub unpaired_coarse : (r : Role) → pairing false r ≡ coarse → ⊥
unpaired_coarse coarse e = cc
unpaired_coarse _ e = cc

pub unpaired_fine : (r : Role) → pairing false r ≡ fine → ⊥
unpaired_fine fine e = cc
unpaired_fine _ e = cc

pub pairing-true : (r : Role) → pairing true r ≡ r
pairing-true coarse = refl
pairing-true fine = refl
pairing-true _ = refl

-- ---- their indexes

coarse_below : (i : ℕ) → role_of i ≡ coarse → i < 32
unfolding role_of
coarse_below i h = grind (arith, nat_tests)

fine_within : (i : ℕ) → role_of i ≡ fine → (32 ≤ i) × (i < 64)
unfolding role_of
fine_within i h = grind (arith, nat_tests)

up_row : ℕ → Bool
up_row i = cond (is_coarse (role_of i)) (is_fine (role_of (i + 32))) true

down_row : ℕ → Bool
down_row i = cond (is_fine (role_of (i + 32))) (is_coarse (role_of i)) true

up_rows : agree_below up_row (λ i. true) 32 ≡ true
unfolding up_row is_coarse is_fine role_of
up_rows = refl

down_rows : agree_below down_row (λ i. true) 32 ≡ true
unfolding down_row is_coarse is_fine role_of
down_rows = refl

fine_above : (i : ℕ) → role_of i ≡ coarse → role_of (i + 32) ≡ fine
unfolding up_row is_coarse
fine_above i h = is_fine-true _ (rw h at (agree_below_at up_row (λ i. true) 32 i up_rows (coarse_below i h)))

coarse_under : (i : ℕ) → i < 32 → role_of (i + 32) ≡ fine → role_of i ≡ coarse
unfolding down_row is_fine
coarse_under i b h = is_coarse-true _ (rw h at (agree_below_at down_row (λ i. true) 32 i down_rows b))

coarse_of_fine : (i : ℕ) → role_of i ≡ fine → role_of (i - 32) ≡ coarse
coarse_of_fine i h =
    let within = fine_within i h in
    let again : i - 32 + 32 ≡ i = omega (arith, within.0) in
    coarse_under (i - 32) (omega (arith, within.0, within.1)) (ap role_of again ∙ h)

-- ---- with paired controllers or without

-- the LSB of an MSB has the index that is higher by 32
pub pair_fine : (paired : Bool) (i : ℕ) → pairing paired (role_of i) ≡ coarse → pairing paired (role_of (i + 32)) ≡ fine
pair_fine true i h = pairing-true (role_of (i + 32)) ∙ fine_above i (sym (pairing-true (role_of i)) ∙ h)
pair_fine false i h = absurd (unpaired_coarse (role_of i) h)

-- and the other way round
pub pair_coarse : (paired : Bool) (i : ℕ) → pairing paired (role_of i) ≡ fine → pairing paired (role_of (i - 32)) ≡ coarse
pair_coarse true i h = pairing-true (role_of (i - 32)) ∙ coarse_of_fine i (sym (pairing-true (role_of i)) ∙ h)
pair_coarse false i h = absurd (unpaired_fine (role_of i) h)

pub pair_below : (paired : Bool) (i : ℕ) → pairing paired (role_of i) ≡ coarse → i + 32 < 128
pair_below true i h = let b = coarse_below i (sym (pairing-true (role_of i)) ∙ h) in omega (arith, b)
pair_below false i h = absurd (unpaired_coarse (role_of i) h)

pub pair_index : (paired : Bool) (i : ℕ) → pairing paired (role_of i) ≡ coarse → i < 32
pair_index true i h = coarse_below i (sym (pairing-true (role_of i)) ∙ h)
pair_index false i h = absurd (unpaired_coarse (role_of i) h)

-- an MSB is seen only if controllers are paired
pub only_paired : (paired : Bool) (r : Role) → pairing paired r ≡ coarse → paired ≡ true
only_paired true r h = refl
only_paired false r h = absurd (unpaired_coarse r h)

-- ---- the values of pairs

pub pair_value : (paired : Bool) (i v : ℕ) → pairing paired (role_of i) ≡ coarse → v < 16384 → v ≡ controller_down paired i (up v 14 32)
pair_value paired i v e b = sym (down14_up v b) ∙ ap (λ r. value_down r (up v 14 32)) (sym e)

-- ---- pairs have no registers

pub registers-pairing : (paired : Bool) (r : Role) (v : ℕ) (registers : Registers)
    → registers_after (pairing paired r) v registers ≡ registers_after r v registers
registers-pairing true coarse v registers = refl
registers-pairing false coarse v registers = refl
registers-pairing true fine v registers = refl
registers-pairing false fine v registers = refl
registers-pairing paired _ v registers = refl

-- ---- and no refusals

pub bad-pairing : (paired : Bool) (r : Role) → bad_role (pairing paired r) ≡ bad_role r
bad-pairing true coarse = refl
bad-pairing false coarse = refl
bad-pairing true fine = refl
bad-pairing false fine = refl
bad-pairing paired _ = refl
