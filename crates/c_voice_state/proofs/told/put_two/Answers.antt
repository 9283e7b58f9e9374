use Rattle.std.proofs.Common.{◌≡◌, ◌≤◌, List, [], ◌∷◌, length, drop, refl, ◌∙◌, arith}
use Rattle.std.specs.Prelude.{slice_set}
use Rattle.std.proofs.lemmas.Bool.{le-ltb}
use Rattle.c_voice_state.specs.declared.fact_numbers.FactNumbers.{FactNumbers}
use Rattle.c_voice_state.proofs.told.put_two.Goals as goal

two_at_front : (old : List FactNumbers) (first second : FactNumbers) → 2 ≤ length old
    → slice_set (slice_set old 0 first) 1 second ≡ first ∷ second ∷ drop 2 old
two_at_front [] first second fits = absurd (omega (arith, fits))
two_at_front (one ∷ []) first second fits = absurd (omega (arith, fits))
two_at_front (one ∷ other ∷ more) first second fits = refl

pub returns : goal.returns
returns c = (
  le-ltb (length c.args.buffer.now) 2 c.if-buffer-lt2.false,
  refl,
  two_at_front c.args.buffer.now c.of.result c.of-2.result c.if-buffer-lt2.false
      ∙ (λ i. c.of.ensures i ∷ c.of-2.ensures i ∷ drop 2 c.args.buffer.now),
)
