-- What sinks have accepted: a fault that is counted leaves it unchanged, and what one sink keeps is kept of all.
use Rattle.std.proofs.Common.{◌≡◌, ℕ, zero, suc, List, [], ◌∷◌, Option, None, Some, refl, sym, subst, ◌∙◌, slice_index_or, slice_set}
use Rattle.std.specs.Prelude.{Result, Ok, Err, IsErr, MatchResult}
use Rattle.std.specs.Io.KnownBytes.{Keeps}
use Rattle.midi_edge.specs.Adapters.{Accepts, KeepsEach, accepted}
use Rattle.midi_edge.specs.declared.adapters.write_sink.WriteSink.{WriteSink}

pub accepts_counted : {T E F : Type 0} → (old new : Option (List ℕ)) (answer : Result T E) (counted : Result T F) (piece : List ℕ)
    → MatchResult counted (λ x. answer ≡ Ok x) (λ _. IsErr answer) → Accepts old new answer piece → Accepts old new counted piece
accepts_counted old new (Ok x) (Ok y) piece same accepts = accepts
accepts_counted old new (Ok x) (Err f) piece same accepts = cc
accepts_counted old new (Err e) (Ok y) piece same accepts = cc
accepts_counted old new (Err e) (Err f) piece same accepts = accepts

Keeps-refl : (known : Option (List ℕ)) → Keeps known known
Keeps-refl None = tt
Keeps-refl (Some bytes) = refl

Keeps-trans : (a b c : Option (List ℕ)) → Keeps a b → Keeps b c → Keeps a c
Keeps-trans None b c p q = tt
Keeps-trans (Some a) None c p q = absurd p
Keeps-trans (Some a) (Some b) None p q = absurd q
Keeps-trans (Some a) (Some b) (Some c) p q = q ∙ p

module _ {W : Type 0} (contents : W → Option (List ℕ)) where
  pub KeepsEach-refl : (sinks : List (WriteSink W)) → KeepsEach contents sinks sinks
  KeepsEach-refl [] = tt
  KeepsEach-refl (sink ∷ sinks) = (Keeps-refl (accepted contents sink), KeepsEach-refl sinks)

  -- one more call, at one of the sinks, which keeps what it has accepted
  pub KeepsEach-set : (old now : List (WriteSink W)) (i : ℕ) (default after : WriteSink W) → KeepsEach contents old now
      → Keeps (accepted contents (slice_index_or now i default)) (accepted contents after) → KeepsEach contents old (slice_set now i after)
  KeepsEach-set [] [] i default after each keeps = tt
  KeepsEach-set [] (now ∷ nows) i default after each keeps = absurd each
  KeepsEach-set (old ∷ olds) [] i default after each keeps = absurd each
  KeepsEach-set (old ∷ olds) (now ∷ nows) zero default after each keeps =
      (Keeps-trans (accepted contents old) (accepted contents now) (accepted contents after) each.0 keeps, each.1)
  KeepsEach-set (old ∷ olds) (now ∷ nows) (suc i) default after each keeps =
      (each.0, KeepsEach-set olds nows i default after each.1 keeps)

  pub keeps_each_twice : (a b c : List (WriteSink W)) → KeepsEach contents a b → KeepsEach contents b c → KeepsEach contents a c
  keeps_each_twice [] [] [] p q = tt
  keeps_each_twice [] [] (z ∷ zs) p q = absurd q
  keeps_each_twice [] (y ∷ ys) c p q = absurd p
  keeps_each_twice (x ∷ xs) [] c p q = absurd p
  keeps_each_twice (x ∷ xs) (y ∷ ys) [] p q = absurd q
  keeps_each_twice (x ∷ xs) (y ∷ ys) (z ∷ zs) p q =
      (Keeps-trans (accepted contents x) (accepted contents y) (accepted contents z) p.0 q.0, keeps_each_twice xs ys zs p.1 q.1)

  -- a sink that may gather no more keeps what it has accepted
  pub kept_without_room : (old new : WriteSink W) → new ≡ record old { room = new.room } → Keeps (accepted contents old) (accepted contents new)
  kept_without_room old new same =
      subst (λ s. Keeps (accepted contents old) (accepted contents s)) (sym same) (Keeps-refl (accepted contents old))
