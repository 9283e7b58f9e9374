use Rattle.std.proofs.Common.{◌≡◌, ◌≤◌, ◌++◌, ℕ, List, length, take, drop, ap, sym, ◌∙◌, arith}
use Rattle.std.proofs.lemmas.List.{take_at, take-append-drop, length-take-le, nil_from_length}
use Rattle.midi_edge.proofs.mem_source.fill.Goals as goal

-- a front that was copied, and the bytes after it in the source
front_of : (n : ℕ) (left piece after : List ℕ) → n ≤ length left → piece ≡ take n left → left ≡ take n (piece ++ after) ++ drop n left
front_of n left piece after fits p =
    let len : length piece ≡ n = ap length p ∙ length-take-le n left fits in
    sym (take-append-drop n left) ∙ ap (λ xs. xs ++ drop n left) (sym (take_at piece after n len ∙ p))

pub returns-clause-front : goal.returns-clause-front
returns-clause-front c = front_of _ _ _ _ (omega arith) c.copy_from_slice.ensures.after

pub returns-clause-end : goal.returns-clause-end
returns-clause-end c = λ e. nil_from_length _ (omega arith)
