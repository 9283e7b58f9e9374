-- A pass over an input that is refused ends with its first refusal, unless something fails.
use Rattle.std.proofs.Common.{◌≡◌, ℕ, Bool, true, false, List, [], Option, None, Some, refl, ap, sym, subst, inl, inr}
use Rattle.std.specs.Prelude.{IfSome}
use Rattle.pass_loop.specs.ForProofs.DoneLaws.{not_refused}
use Rattle.pass_loop.specs.ForProofs.FirstRefusalLaws.{one_refusal}
use Rattle.pass_loop.specs.Pass.{CutsOnce, Cutting, Ends, IsFirstRefusal, NothingFails, Seen, Stands, Tail, Work}
use Rattle.pass_loop.specs.Refused.{HasFirstRefusal, IsRefusedIn, IsRefusedWhere}
use Rattle.pass_loop.specs.declared.ends.Reason.{Reason}
use Rattle.pass_loop.specs.declared.ends.RunEnd.{RunEnd}
use Rattle.pass_loop.specs.declared.ends.RunEnd.TheVariants.{Done, Refused, ReadFault, LaneFault, OutputFault, NoteFault, NoMemory}

-- the end that a refusal is told by
abbrev end_at : Tail → RunEnd
end_at None = Done
end_at (Some refusal) = Refused refusal.0 refusal.1

is_refused : (grows : Bool) (reason : Reason) (offset : ℕ) (end : RunEnd) → end ≡ Refused reason offset
    → IsRefusedIn grows reason offset end
is_refused false reason offset end same = same
is_refused true reason offset end same = inl same

module _ {Item : Type 0} (IsCut : Cutting Item) (work : Work Item) (cuts : CutsOnce IsCut) where
  module _ (old new : Seen) (bytes : List ℕ) (told : old.left ≡ Some bytes) (reason : Reason) (offset : ℕ)
      (first : HasFirstRefusal IsCut work bytes reason offset) (well : NothingFails old new) where
    pub refused_unless : (end : RunEnd) → Stands IsCut work old new end → IsRefusedIn work.grows reason offset end
    refused_unless Done ends =
        let D : Option (List ℕ) → Type 0 = λ all. IfSome all (λ b. IsCut b ends.items None × (new.left ≡ Some [])) in
        absurd (not_refused IsCut work cuts bytes (ends.items, (subst D told ends.cut).0, ends.done.accepted, ends.fine) first.0 reason
        offset first.2)
    refused_unless (Refused reason' offset') ends =
        let F : Option (List ℕ) → Type 0 = λ all. IfSome all (λ b. IsFirstRefusal IsCut work b ends.items reason' offset') in
        let one =
        one_refusal IsCut work cuts bytes ends.items first.0 reason' reason offset' offset ends.done.accepted first.1
        (subst F told ends.first) first.2 in
        is_refused work.grows reason offset (Refused reason' offset') (ap end_at one.1)
    refused_unless ReadFault ends = absurd (well.0 ends.reads)
    refused_unless LaneFault ends = let stops = ends.places in absurd (well.1 stops.counts.0)
    refused_unless OutputFault ends = let stops = ends.places in absurd (well.2 stops.counts.0)
    refused_unless NoteFault ends = let stops = ends.places in absurd (well.3 stops.counts.0)
    refused_unless NoMemory ends = subst (λ grows. IsRefusedIn grows reason offset NoMemory) (sym ends.grows) (inr refl)

  pub is_refused_where : (old new : Seen) (end : RunEnd) → Ends IsCut work old new end → IsRefusedWhere IsCut work old new end
  is_refused_where old new end ends = by_told old.left refl
    where
      by_told : (left : Option (List ℕ)) → old.left ≡ left
          → IfSome left (λ bytes. (reason : Reason) (offset : ℕ) → HasFirstRefusal IsCut work bytes reason offset → NothingFails old new
          → IsRefusedIn work.grows reason offset end)
      by_told None told = tt
      by_told (Some bytes) told = λ reason offset first well. refused_unless old new bytes told reason offset first well end ends.0
