-- A pass over an input of which nothing is refused is done, unless something fails.
use Rattle.std.proofs.Common.{◌≡◌, ℕ, Bool, true, false, List, [], ◌∷◌, ◌++◌, Option, None, Some, refl, ap, sym, ◌∙◌, subst, inl, inr}
use Rattle.std.specs.Prelude.{IfSome, reverse}
use Rattle.std.proofs.lemmas.List.{reverse-append}
use Rattle.pass_loop.specs.Pass.{Seen, Tail, Cutting, CutsOnce, Work, AreAccepted, IsFirstRefusal}
use Rattle.pass_loop.specs.Pass.{Ends, Stands, HasNoRefusal, IsDoneIn, IsDoneUnless, NothingFails}
use Rattle.pass_loop.specs.declared.ends.Reason.{Reason}
use Rattle.pass_loop.specs.declared.ends.RunEnd.{RunEnd}
use Rattle.pass_loop.specs.declared.ends.RunEnd.TheVariants.{Done, Refused, ReadFault, LaneFault, OutputFault, NoteFault, NoMemory}

abbrev IsRefusal : Tail → Type 0
IsRefusal None = ⊥
IsRefusal (Some refusal) = Unit {0}

pub none_some : (refusal : Reason × ℕ) → None ≡ Some refusal → ⊥
none_some refusal e = subst IsRefusal (sym e) tt

pub accepted_at : {Item : Type 0} (work : Work Item) (newer : List Item) (item : Item) (past : List Item)
    → AreAccepted work (newer ++ item ∷ past) → work.refusal past item ≡ None
accepted_at work [] item past accepted = accepted.0
accepted_at work (i ∷ newer) item past accepted = accepted_at work newer item past accepted.1

is_done : (grows : Bool) → IsDoneIn grows Done
is_done false = refl
is_done true = inl refl

module _ {Item : Type 0} (IsCut : Cutting Item) (work : Work Item) (cuts : CutsOnce IsCut) where
  pub not_refused : (bytes : List ℕ) → HasNoRefusal IsCut work bytes → (items : List Item) (reason : Reason) (offset : ℕ)
      → IsFirstRefusal IsCut work bytes items reason offset → ⊥
  not_refused bytes none items reason offset (inl cut) =
      none_some (reason, offset) (cuts.one bytes none.0 items None (Some (reason, offset)) none.1 cut).1
  not_refused bytes none items reason offset (inr (inr end)) =
      let same = (cuts.one bytes none.0 items None None none.1 end.0).0 in
      none_some (reason, offset) (sym none.3 ∙ ap (λ xs. work.refusal_at_end (reverse xs)) same ∙ end.1)
  not_refused bytes none items reason offset (inr (inl next)) =
      let item : Item = next.0 in
      let front = cuts.front bytes none.0 (items ++ item ∷ []) None none.1 next.1 in
      let turned : reverse none.0 ≡ reverse front.0 ++ item ∷ reverse items =
      ap reverse front.1
      ∙ reverse-append (items ++ item ∷ []) front.0
      ∙ ap (λ xs. reverse front.0 ++ xs) (reverse-append items (item ∷ [])) in
      let A : List Item → Type 0 = λ xs. AreAccepted work xs in
      none_some (reason, offset) (sym (accepted_at work (reverse front.0) item (reverse items) (subst A turned none.2)) ∙ next.2)

  pub done_unless : (old new : Seen) (end : RunEnd) (bytes : List ℕ) → old.left ≡ Some bytes → HasNoRefusal IsCut work bytes
      → NothingFails old new → Stands IsCut work old new end → IsDoneIn work.grows end
  done_unless old new Done bytes told none well ends = is_done work.grows
  done_unless old new (Refused reason offset) bytes told none well ends =
      let F : Option (List ℕ) → Type 0 = λ all. IfSome all (λ b. IsFirstRefusal IsCut work b ends.items reason offset) in
      absurd (not_refused bytes none ends.items reason offset (subst F told ends.first))
  done_unless old new ReadFault bytes told none well ends = absurd (well.0 ends.reads)
  done_unless old new LaneFault bytes told none well ends = let stops = ends.places in absurd (well.1 stops.counts.0)
  done_unless old new OutputFault bytes told none well ends = let stops = ends.places in absurd (well.2 stops.counts.0)
  done_unless old new NoteFault bytes told none well ends = let stops = ends.places in absurd (well.3 stops.counts.0)
  done_unless old new NoMemory bytes told none well ends = subst (λ grows. IsDoneIn grows NoMemory) (sym ends.grows) (inr refl)

  pub is_done_unless : (old new : Seen) (end : RunEnd) → Ends IsCut work old new end → IsDoneUnless IsCut work old new end
  is_done_unless old new end ends = by_told old.left refl
    where
      by_told : (left : Option (List ℕ)) → old.left ≡ left
          → IfSome left (λ bytes. HasNoRefusal IsCut work bytes → NothingFails old new → IsDoneIn work.grows end)
      by_told None told = tt
      by_told (Some bytes) told = λ none well. done_unless old new end bytes told none well ends.0
