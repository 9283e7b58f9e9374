-- A count is one more if its list has one more.
use Rattle.std.proofs.Common.{◌≡◌, ◌∙◌, ap, ℕ, ◌+◌, ◌-◌, ◌^◌, min, List, [], ◌∷◌, ◌++◌, length, length-append, arith}
use Rattle.voice_state.specs.Facts.{count_of}

capped : (n : ℕ) → min (n + 1) (2 ^ 64 - 1) ≡ min (min n (2 ^ 64 - 1) + 1) (2 ^ 64 - 1)
capped n = omega arith

pub count_more : {A : Type 0} (list : List A) (item : A) → count_of (list ++ item ∷ []) ≡ min (count_of list + 1) (2 ^ 64 - 1)
count_more list item = ap (λ n. min n (2 ^ 64 - 1)) (length-append list (item ∷ [])) ∙ capped (length list)
