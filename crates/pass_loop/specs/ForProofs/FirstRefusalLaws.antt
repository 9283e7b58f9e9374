-- An input that is cut in one way has one first refusal.
use Rattle.std.proofs.Common.{◌≡◌, ℕ, List, [], ◌∷◌, ◌++◌, None, Some, refl, ap, sym, ◌∙◌, subst, inl, inr}
use Rattle.std.specs.Prelude.{◌⊎◌, reverse}
use Rattle.std.proofs.lemmas.List.{reverse-append}
use Rattle.pass_loop.specs.FirstRefusal.{HasOneFirstRefusal}
use Rattle.pass_loop.specs.Pass.{Cutting, CutsOnce, Work, AreAccepted, IsFront}
use Rattle.pass_loop.specs.ForProofs.DoneLaws.{accepted_at, none_some}
use Rattle.pass_loop.specs.declared.ends.Reason.{Reason}

-- ---- lists

abbrev head_or : {A : Type 0} → A → List A → A
head_or a [] = a
head_or a (x ∷ xs) = x

abbrev rest_of : {A : Type 0} → List A → List A
rest_of [] = []
rest_of (x ∷ xs) = xs

abbrev IsNone : {A : Type 0} → List A → Type 0
IsNone [] = Unit {0}
IsNone (x ∷ xs) = ⊥

not_none : {A : Type 0} (xs : List A) (x : A) (ys : List A) → [] ≡ (xs ++ x ∷ []) ++ ys → ⊥
not_none [] x ys e = subst IsNone e tt
not_none (y ∷ xs) x ys e = subst IsNone e tt

-- of two fronts of one list, one is a front of the other
one_in_other : (first second more rest : List ℕ) → first ++ more ≡ second ++ rest
    → ((x : List ℕ) × (second ≡ first ++ x)) ⊎ ((x : List ℕ) × (first ≡ second ++ x))
one_in_other [] second more rest e = inl (second, refl)
one_in_other (a ∷ first) [] more rest e = inr (a ∷ first, refl)
one_in_other (a ∷ first) (b ∷ second) more rest e =
    let same : a ≡ b = ap (head_or a) e in
    elim (one_in_other first second more rest (ap rest_of e)) [
      | inl x ↦ inl (x.0, ap (λ xs. b ∷ xs) x.1 ∙ ap (λ c. c ∷ (first ++ x.0)) (sym same))
      | inr x ↦ inr (x.0, ap (λ xs. a ∷ xs) x.1 ∙ ap (λ c. c ∷ (second ++ x.0)) same)
    ]

-- an item after some stands at the end of others, or they go on before it
at_one : {A : Type 0} (items others rest : List A) (i j : A) → others ++ j ∷ [] ≡ (items ++ i ∷ []) ++ rest
    → ((items ≡ others) × (i ≡ j)) ⊎ ((more : List A) × (others ≡ (items ++ i ∷ []) ++ more))
at_one [] [] rest i j e = inl (refl, sym (ap (head_or j) e))
at_one [] (o ∷ others) rest i j e = inr (others, ap (λ x. x ∷ others) (ap (head_or o) e))
at_one (x ∷ items) [] rest i j e = absurd (not_none items i rest (ap rest_of e))
at_one (x ∷ items) (o ∷ others) rest i j e =
    let same : o ≡ x = ap (head_or o) e in
    elim (at_one items others rest i j (ap rest_of e)) [
      | inl one ↦ inl (ap (λ xs. x ∷ xs) one.0 ∙ ap (λ c. c ∷ others) (sym same), one.1)
      | inr go ↦ inr (go.0, ap (λ xs. o ∷ xs) go.1 ∙ ap (λ c. c ∷ ((items ++ i ∷ []) ++ go.0)) same)
    ]

-- the items and the refusal are the same
abbrev IsOne : {Item : Type 0} → List Item → List Item → Reason × ℕ → Reason × ℕ → Type 0
IsOne items others refusal other = (items ≡ others) × (Some refusal ≡ Some other)

module _ {Item : Type 0} (IsCut : Cutting Item) (work : Work Item) (cuts : CutsOnce IsCut) where
  -- an item among others that are accepted isn't refused
  among : (items others more : List Item) (item : Item) → others ≡ (items ++ item ∷ []) ++ more → AreAccepted work (reverse others)
      → work.refusal (reverse items) item ≡ None
  among items others more item same accepted =
      let turned : reverse others ≡ reverse more ++ item ∷ reverse items =
      ap reverse same ∙ reverse-append (items ++ item ∷ []) more ∙ ap (λ xs. reverse more ++ xs) (reverse-append items (item ∷ [])) in
      let A : List Item → Type 0 = λ xs. AreAccepted work xs in
      accepted_at work (reverse more) item (reverse items) (subst A turned accepted)

  module _ (items others : List Item) (refusal other : Reason × ℕ) (accepted : AreAccepted work (reverse items))
      (accepted' : AreAccepted work (reverse others)) where
    -- the bytes are refused after items, so no item of theirs is
    refused_bytes : (bytes : List ℕ) (item : Item) → IsCut bytes items (Some refusal) → IsFront IsCut bytes (others ++ item ∷ [])
        → work.refusal (reverse others) item ≡ Some other → ⊥
    refused_bytes bytes item cut front refused =
        let begin = cuts.front bytes items (others ++ item ∷ []) (Some refusal) cut front in
        none_some other (sym (among others items begin.0 item begin.1 accepted) ∙ refused)

    -- one front goes on after the other
    further : (short long : List ℕ) (i j : Item) → (x : List ℕ) × (long ≡ short ++ x) → IsCut short (items ++ i ∷ []) None
        → IsCut long (others ++ j ∷ []) None
        → work.refusal (reverse items) i ≡ Some refusal → work.refusal (reverse others) j ≡ Some other → IsOne items others refusal other
    further short long i j more cut cut' refused refused' =
        let front = cuts.front long (others ++ j ∷ []) (items ++ i ∷ []) None cut' (short, more.0, more.1, cut) in
        elim (at_one items others front.0 i j front.1) [
          | inl one ↦ (
            one.0,
            sym refused
                ∙ ap (λ past. work.refusal (reverse past) i) one.0
                ∙ ap (λ item. work.refusal (reverse others) item) one.1
                ∙ refused',
          )
          | inr go ↦ absurd (none_some refusal (sym (among items others go.0 i go.1 accepted') ∙ refused))
        ]

  module _ (items others : List Item) (refusal other : Reason × ℕ) (accepted : AreAccepted work (reverse items)) where
    -- the input is refused at its end, so no item of it is
    refused_end : (bytes : List ℕ) (item : Item) → IsCut bytes items None → IsFront IsCut bytes (others ++ item ∷ [])
        → work.refusal (reverse others) item ≡ Some other → ⊥
    refused_end bytes item cut front refused =
        let begin = cuts.front bytes items (others ++ item ∷ []) None cut front in
        none_some other (sym (among others items begin.0 item begin.1 accepted) ∙ refused)

  pub one_refusal : HasOneFirstRefusal IsCut work
  one_refusal bytes items others reason reason' offset offset' accepted accepted' (inl cut) (inl cut') =
      cuts.one bytes items others (Some (reason, offset)) (Some (reason', offset')) cut cut'
  one_refusal bytes items others reason reason' offset offset' accepted accepted' (inl cut) (inr (inl next)) =
      absurd (refused_bytes items others (reason, offset) (reason', offset') accepted accepted' bytes next.0 cut next.1 next.2)
  one_refusal bytes items others reason reason' offset offset' accepted accepted' (inl cut) (inr (inr end)) =
      absurd (none_some (reason, offset) (sym (cuts.one bytes items others (Some (reason, offset)) None cut end.0).1))
  one_refusal bytes items others reason reason' offset offset' accepted accepted' (inr (inl next)) (inl cut) =
      absurd (refused_bytes others items (reason', offset') (reason, offset) accepted' accepted bytes next.0 cut next.1 next.2)
  one_refusal bytes items others reason reason' offset offset' accepted accepted' (inr (inl next)) (inr (inr end)) =
      absurd (refused_end others items (reason', offset') (reason, offset) accepted' bytes next.0 end.0 next.1 next.2)
  one_refusal bytes items others reason reason' offset offset' accepted accepted' (inr (inr end)) (inl cut) =
      absurd (none_some (reason', offset') (sym (cuts.one bytes others items (Some (reason', offset')) None cut end.0).1))
  one_refusal bytes items others reason reason' offset offset' accepted accepted' (inr (inr end)) (inr (inl next)) =
      absurd (refused_end items others (reason, offset) (reason', offset') accepted bytes next.0 end.0 next.1 next.2)
  one_refusal bytes items others reason reason' offset offset' accepted accepted' (inr (inr end)) (inr (inr end')) =
      let same = (cuts.one bytes items others None None end.0 end'.0).0 in
      (same, sym end.1 ∙ ap (λ xs. work.refusal_at_end (reverse xs)) same ∙ end'.1)
  one_refusal bytes items others reason reason' offset offset' accepted accepted' (inr (inl (i, (short, more, parts, cut), refused)))
      (inr (inl (j, (long, rest, parts', cut'), refused'))) =
      elim (one_in_other short long more rest (sym parts ∙ parts')) [
        | inl x ↦ further items others (reason, offset) (reason', offset') accepted accepted' short long i j x cut cut' refused refused'
        | inr x ↦
            let one =
            further others items (reason', offset') (reason, offset) accepted' accepted long short j i x cut' cut refused' refused in
            (sym one.0, sym one.1)
      ]
