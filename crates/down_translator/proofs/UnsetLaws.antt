-- Sixteen registers of which none is set, and sixteen lanes of which nothing is written.
use Rattle.std.proofs.Common.{ℕ, ◌≡◌, ◌<◌, ◌≤◌, ◌∙◌, sym, arith, Bool, List, length, None, get_or, replicate}
use Rattle.std.proofs.lemmas.List.{ext_get_or, get_or-replicate, length-replicate}
use Rattle.midi_meaning.specs.LaneState.{LaneState, new_lane, registers_at}
use Rattle.midi_meaning.specs.Registers.{unset_registers}
use Rattle.midi_meaning.specs.Styles.{Style}
use Rattle.down_translator.specs.KeptLanes.{new_lanes}

same_each : {X : Type 0} (n done : ℕ) (same : X) (all : List X) → length all ≡ n → n ≤ done →
    ((k : ℕ) → k < done → get_or all k same ≡ same) → all ≡ replicate n same
same_each n done same all size whole each =
    ext_get_or same all (replicate n same) (size ∙ sym (length-replicate n same))
    (λ k below.
    let within : k < n = omega (arith, below, size) in
    each k (omega (arith, within, whole)) ∙ sym (get_or-replicate n k same same within))

pub none_set : (lane : LaneState) → lane.running ≡ None → length lane.channels ≡ 16 →
    ((channel : ℕ) → channel < 16 → registers_at lane.channels channel ≡ unset_registers) → lane ≡ new_lane
none_set lane idle sixteen each =
    let channels : lane.channels ≡ replicate 16 unset_registers = same_each 16 16 unset_registers lane.channels sixteen (omega arith) each in
    λ i. record { running = idle i; channels = channels i }

pub lanes_again : (paired now_paired : Bool) (style now_style : Style) (done : ℕ) (lanes items : List LaneState) → paired ≡ now_paired
    → style ≡ now_style → lanes ≡ items → length items ≡ 16 → 16 ≤ done → ((k : ℕ) → k < done → get_or items k new_lane ≡ new_lane) →
    record { style = style; paired = paired; states = lanes } ≡ new_lanes now_paired now_style
lanes_again paired now_paired style now_style done lanes items same_paired same_style same sixteen whole each =
    let states : lanes ≡ replicate 16 new_lane = same ∙ same_each 16 done new_lane items sixteen whole each in
    λ i. record { style = same_style i; paired = same_paired i; states = states i }
