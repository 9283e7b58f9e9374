use Rattle.std.proofs.Common.{◌≡◌, Some, ◌++◌, ℕ, min, List, length, take, ap, ◌∙◌, arith}
use Rattle.std.proofs.Math.Nat.{min_comm}
use Rattle.std.proofs.lemmas.List.{take_at, take_min, length-take-le}
use Rattle.outside.specs.Outside.{kept_bytes}
use Rattle.midi_edge.proofs.kept_text.KeptText.keep.Goals as goal

-- the front that was copied, of what stands in the array afterwards
front_of : (n : ℕ) (text piece after : List ℕ) → n ≡ min (length text) 4096 → piece ≡ take n text
    → take n (piece ++ after) ≡ kept_bytes text
front_of n text piece after e p =
    let len : length piece ≡ n = ap length p ∙ length-take-le n text (omega arith) in
    take_at piece after n len ∙ p ∙ rw (e, min_comm) (take_min 4096 text)

pub returns : goal.returns
returns c =
    ap Some (front_of _ _ _ _ c.min-len.ensures (rw c.as_bytes.ensures.value at c.copy_from_slice.ensures.after))
