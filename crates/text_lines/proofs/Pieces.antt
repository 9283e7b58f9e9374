-- Pieces that are put one after the other.
use Rattle.std.proofs.Common.{◌≡◌, ℕ, List, ◌++◌, ap, ◌∙◌, append_assoc}

-- two labels, each with what stands after it
pub two_fields : (line first one second two : List ℕ)
    → (((line ++ first) ++ one) ++ second) ++ two ≡ line ++ ((first ++ one) ++ (second ++ two))
two_fields line first one second two =
    append_assoc ((line ++ first) ++ one) second two
    ∙ ap (λ l. l ++ (second ++ two)) (append_assoc line first one)
    ∙ append_assoc line (first ++ one) (second ++ two)

-- and a third one
pub three_fields : (line first one second two third three : List ℕ)
    → (((((line ++ first) ++ one) ++ second) ++ two) ++ third) ++ three ≡ line ++ ((((first ++ one) ++ (second ++ two)) ++ third) ++ three)
three_fields line first one second two third three =
    let whole : List ℕ = (first ++ one) ++ (second ++ two) in
    ap (λ l. (l ++ third) ++ three) (two_fields line first one second two)
    ∙ ap (λ l. l ++ three) (append_assoc line whole third)
    ∙ append_assoc line (whole ++ third) three
