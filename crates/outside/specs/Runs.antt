-- Runs of bytes that are lost, and of items that are gained, one after the other.
use Rattle.std.specs.Prelude.{ℕ, List, [], ◌++◌, Option, None, Some, refl}
use Rattle.std.proofs.Common.{ap, sym, ◌∙◌}
use Rattle.std.proofs.lemmas.List.{append_assoc, append-nil}
use Rattle.outside.specs.Outside.{Gains, Loses, ahead}

-- if nothing is taken nothing is lost, and two runs that are lost one after the other are lost as one
pub record RunsAreLostAsOne : Type 0 where
  pub none : (left : Option (List ℕ)) → Loses left (ahead [] left) []
  pub both : (first second third : Option (List ℕ)) (xs ys : List ℕ) →
      Loses first second xs → Loses second third ys → Loses first third (xs ++ ys)

-- if nothing is put nothing is gained, and two runs that are gained one after the other are gained as one
pub record RunsAreGainedAsOne (A : Type 0) : Type 0 where
  pub none : (held : Option (List A)) → Gains held held []
  pub both : (first second third : Option (List A)) (xs ys : List A) →
      Gains first second xs → Gains second third ys → Gains first third (xs ++ ys)

Loses-none : (left : Option (List ℕ)) → Loses left (ahead [] left) []
Loses-none None = tt
Loses-none (Some left) = refl

Loses-both : (first second third : Option (List ℕ)) (xs ys : List ℕ) → Loses first second xs → Loses second third ys
    → Loses first third (xs ++ ys)
Loses-both None None None xs ys p q = tt
Loses-both (Some a) (Some b) (Some c) xs ys p q = p ∙ ap (λ zs. xs ++ zs) q ∙ sym (append_assoc xs ys c)
Loses-both None None (Some c) xs ys p q = absurd q
Loses-both None (Some b) third xs ys p q = absurd p
Loses-both (Some a) None third xs ys p q = absurd p
Loses-both (Some a) (Some b) None xs ys p q = absurd q

Gains-none : {A : Type 0} (held : Option (List A)) → Gains held held []
Gains-none None = tt
Gains-none (Some items) = sym (append-nil items)

Gains-both : {A : Type 0} (first second third : Option (List A)) (xs ys : List A) → Gains first second xs → Gains second third ys
    → Gains first third (xs ++ ys)
Gains-both None None None xs ys p q = tt
Gains-both (Some a) (Some b) (Some c) xs ys p q = q ∙ ap (λ zs. zs ++ ys) p ∙ append_assoc a xs ys
Gains-both None None (Some c) xs ys p q = absurd q
Gains-both None (Some b) third xs ys p q = absurd p
Gains-both (Some a) None third xs ys p q = absurd p
Gains-both (Some a) (Some b) None xs ys p q = absurd q

pub runs_are_lost : RunsAreLostAsOne
runs_are_lost = record { none = Loses-none; both = Loses-both }

pub runs_are_gained : {A : Type 0} → RunsAreGainedAsOne A
runs_are_gained = record { none = Gains-none; both = Gains-both }
