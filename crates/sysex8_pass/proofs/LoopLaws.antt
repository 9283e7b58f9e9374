-- What is put number by number.
use Rattle.std.proofs.Common.{ℕ, ◌≡◌, ◌<◌, ◌+◌, ◌∙◌, zero, suc, ap, sym, subst, List, [], ◌∷◌, ◌++◌, arith, add-one, inl, inr}
use Rattle.std.specs.List.{flat_map}
use Rattle.std.proofs.lemmas.Bool.{cases_eq}
use Rattle.std.proofs.lemmas.List.{append_assoc, append-nil}
use Rattle.std.proofs.lemmas.List.Concat.{flat_map-append}
use Rattle.pass_loop.specs.Places.{Places, FailsAt, over_puts}
use Rattle.pass_loop.specs.Put.{Put}
use Rattle.pass_loop.specs.ForProofs.PutLaws.{over_puts-none, stops_more, then_put, then_stops}
use Rattle.pass_loop.specs.declared.ends.RunEnd.{RunEnd}
use Rattle.sysex8_pass.specs.Listing.{below}

below-next : (n : ℕ) → below (n + 1) ≡ below n ++ n ∷ []
unfolding below
below-next n = ap below (add-one n)

below-split : (n m : ℕ) → n < m → (rest : List ℕ) × (below m ≡ below n ++ n ∷ rest)
unfolding below
below-split n zero less = absurd (omega arith)
below-split n (suc m) less = elim (cases_eq n m) [
  | inl same ↦ ([], ap (λ k. below k ++ k ∷ []) (sym same))
  | inr differ ↦
      let older : (rest : List ℕ) × (below m ≡ below n ++ n ∷ rest) = below-split n m (omega arith) in
      (older.0 ++ m ∷ [], ap (λ ns. ns ++ m ∷ []) older.1 ∙ append_assoc (below n) (n ∷ older.0) (m ∷ []))
]

pub none-yet : (f : ℕ → List Put) (a : Places) → a ≡ over_puts (flat_map f (below 0)) a
unfolding below
none-yet f a = sym (over_puts-none a)

pub one-more : (f : ℕ → List Put) (n : ℕ) (a b c : Places) → b ≡ over_puts (flat_map f (below n)) a → c ≡ over_puts (f n) b
    → c ≡ over_puts (flat_map f (below (n + 1))) a
one-more f n a b c first second =
    then_put (flat_map f (below n)) (f n) a b c first second
    ∙ ap (λ puts. over_puts puts a) (ap (λ puts. flat_map f (below n) ++ puts) (sym (append-nil (f n)))
    ∙ sym (flat_map-append f (below n) (n ∷ []))
    ∙ ap (flat_map f) (sym (below-next n)))

pub one-fails : (f : ℕ → List Put) (n m : ℕ) → n < m → (end : RunEnd) (a b c : Places) → b ≡ over_puts (flat_map f (below n)) a
    → FailsAt (f n) end b c → FailsAt (flat_map f (below m)) end a c
one-fails f n m less end a b c first fails =
    let parts : (rest : List ℕ) × (below m ≡ below n ++ n ∷ rest) = below-split n m less in
    let S : List Put → Type 0 = λ puts. FailsAt puts end a c in
    subst S (sym (ap (flat_map f) parts.1 ∙ flat_map-append f (below n) (n ∷ parts.0)))
    (then_stops (flat_map f (below n)) (f n ++ flat_map f parts.0) end a b c first (stops_more (f n) (flat_map f parts.0) end b c fails))
