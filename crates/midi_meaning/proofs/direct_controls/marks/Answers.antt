use Rattle.std.proofs.Common.{◌≡◌, ◌≢◌, ◌<◌, ◌+◌, ◌∙◌, ℕ, Some, Bool, true, false}
use Rattle.std.proofs.Common.{slice_index_or, slice_set, ap, arith, sym, refl, eqb, eq-eqb}
use Rattle.std.proofs.lemmas.Bool.{eqb-true, true≢false}
use Rattle.std.proofs.lemmas.List.{get_or-set_other, get_or-set_same, length-set}
use Rattle.midi_meaning.specs.Controllers.{is_direct_in}
use Rattle.midi_meaning.proofs.direct_controls.marks.Goals as goal

pub loop-index-preserved : goal.loop-index-preserved
loop-index-preserved c = (
  length-set c.loop-index.marked c.loop-index.index c.is_direct.result ∙ c.loop-index.invariant.0,
  λ index below. go index below (eqb index c.loop-index.index) refl,
)
  where
    go : (index : ℕ) → index < c.loop-index.index + 1 → (same : Bool) → eqb index c.loop-index.index ≡ same
        → slice_index_or (slice_set c.loop-index.marked c.loop-index.index c.is_direct.result) index false
        ≡ is_direct_in (Some c.args.paired) index
    go index below true e =
        let here : index ≡ c.loop-index.index = eqb-true index c.loop-index.index e in
        let number : c.low_bits.result ≡ index = omega (arith, c.low_bits.ensures, c.loop-index-test.true, here) in
        ap (λ n. slice_index_or (slice_set c.loop-index.marked c.loop-index.index c.is_direct.result) n false) here
        ∙ get_or-set_same c.loop-index.marked c.loop-index.index c.is_direct.result false
        (omega (arith, c.loop-index-test.true, c.loop-index.invariant.0))
        ∙ c.is_direct.ensures ∙ ap (is_direct_in (Some c.args.paired)) number
    go index below false e =
        let other : index ≢ c.loop-index.index = λ same. true≢false (sym (eq-eqb index c.loop-index.index same) ∙ e) in
        get_or-set_other c.loop-index.marked c.loop-index.index index c.is_direct.result false other
        ∙ c.loop-index.invariant.1 index (omega (arith, below, other))
