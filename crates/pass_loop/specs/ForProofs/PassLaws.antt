-- What a pass has done so far, and what each end says of it.
use Rattle.std.proofs.Common.{◌≡◌, ℕ, Bool, true, false, List, [], ◌∷◌, ◌++◌, Option, None, Some, refl, sym, ◌∙◌, subst, inl, inr}
use Rattle.std.specs.Prelude.{◌⊎◌, IfSome, Result, Ok, Err, reverse}
use Rattle.std.proofs.lemmas.List.{reverse-append}
use Rattle.outside.specs.Outside.{Rose}
use Rattle.pass_loop.specs.Pass.{Seen, Cutting, Work, AreAccepted, ArePut, IsWork, PutsIn, StepEnds, Steps, Closes, ClosesBy}
use Rattle.pass_loop.specs.Pass.{Tail, end_of, IsFront, HasGivenUp, IsFirstRefusal, IsNextPut, PutFails, WantsMemory, Stands}
use Rattle.pass_loop.specs.Places.{Places, over_puts, FailsAt, Puts}
use Rattle.pass_loop.specs.Put.{Put}
use Rattle.pass_loop.specs.declared.ends.Reason.{Reason}
use Rattle.pass_loop.specs.declared.ends.RunEnd.{RunEnd}
use Rattle.pass_loop.specs.declared.ends.RunEnd.TheVariants.{Done, Refused, ReadFault, LaneFault, OutputFault, NoteFault, NoMemory}
use Rattle.pass_loop.specs.ForProofs.PutLaws.{over_puts-none, then_put}
use Rattle.pass_loop.specs.ForProofs.StepLaws.{no_other_end}

pub reverse-push : {A : Type 0} (xs : List A) (x : A) → reverse (xs ++ x ∷ []) ≡ x ∷ reverse xs
reverse-push xs x = reverse-append xs (x ∷ [])

-- What is so far: these items are accepted and the work on them is done.
pub record SoFar {I : Type 0} (work : Work I) (Has : List I → Type 0) (Holds : List I → Type 0) (old new : Seen) : Type 0 where
  pub items : List I
  pub has : Has items
  pub holds : Holds (reverse items)
  pub puts : List Put
  pub accepted : AreAccepted work (reverse items)
  pub put : ArePut work (reverse items) puts
  pub places : new.places ≡ over_puts puts old.places
  pub reads : new.reads ≡ old.reads

pub nothing_yet : {I : Type 0} (work : Work I) (Has : List I → Type 0) (Holds : List I → Type 0) (old : Seen) → Has [] → Holds []
    → SoFar work Has Holds old old
nothing_yet work Has Holds old has holds =
    record {
      items = [];
      has = has;
      holds = holds;
      puts = [];
      accepted = tt;
      put = refl;
      places = sym (over_puts-none old.places);
      reads = refl;
    }

-- it is still so if all places and the count of reads are as before
abbrev pub still : {I : Type 0} (work : Work I) (Has : List I → Type 0) (Holds : List I → Type 0) (old now new : Seen)
    → SoFar work Has Holds old now
    → new.places ≡ now.places → new.reads ≡ now.reads → SoFar work Has Holds old new
still work Has Holds old now new so_far places reads =
    record {
      items = so_far.items;
      has = so_far.has;
      holds = so_far.holds;
      puts = so_far.puts;
      accepted = so_far.accepted;
      put = so_far.put;
      places = places ∙ so_far.places;
      reads = reads ∙ so_far.reads;
    }

-- the same if the reader, which may be another, has given the same items
abbrev pub still_by : {I : Type 0} (work : Work I) (Has Has' : List I → Type 0) (Holds : List I → Type 0) (old now new : Seen)
    (so_far : SoFar work Has Holds old now)
    → Has' so_far.items → new.places ≡ now.places → new.reads ≡ now.reads → SoFar work Has' Holds old new
still_by work Has Has' Holds old now new so_far has places reads =
    record {
      items = so_far.items;
      has = has;
      holds = so_far.holds;
      puts = so_far.puts;
      accepted = so_far.accepted;
      put = so_far.put;
      places = places ∙ so_far.places;
      reads = reads ∙ so_far.reads;
    }

module _ {I : Type 0} (IsCut : Cutting I) (work : Work I) (Has : List I → Type 0) (Holds : List I → Type 0) (old now : Seen)
    (so_far : SoFar work Has Holds old now)
    (means : (past : List I) (puts : List Put) → Holds past → AreAccepted work past → ArePut work past puts → work.Means past puts) where
  done : IsWork work so_far.items so_far.puts
  done = record {
    accepted = so_far.accepted;
    put = so_far.put;
    meaning = means (reverse so_far.items) so_far.puts so_far.holds so_far.accepted so_far.put;
  }

  -- one more item, which is accepted
  abbrev pub one_more : (Has' : List I → Type 0) (Holds' : List I → Type 0) (item : I) (new : Seen) → Has' (so_far.items ++ item ∷ [])
      → new.reads ≡ now.reads
      → Steps work (reverse so_far.items) now.places new.places item (Ok tt) → Holds' (item ∷ reverse so_far.items)
      → SoFar work Has' Holds' old new
  one_more Has' Holds' item new has reads steps holds =
      let turned : reverse (so_far.items ++ item ∷ []) ≡ item ∷ reverse so_far.items = reverse-push so_far.items item in
      let A : List I → Type 0 = λ xs. AreAccepted work xs in
      let P : List I → Type 0 = λ xs. ArePut work xs (so_far.puts ++ steps.1.0) in
      record {
        items = so_far.items ++ item ∷ [];
        has = has;
        holds = subst Holds' (sym turned) holds;
        puts = so_far.puts ++ steps.1.0;
        accepted = subst A (sym turned) (steps.0, so_far.accepted);
        put = subst P (sym turned) (so_far.puts, steps.1.0, so_far.put, steps.1.1, refl);
        places = then_put so_far.puts steps.1.0 old.places now.places new.places so_far.places steps.1.2;
        reads = reads ∙ so_far.reads;
      }

  -- a put failed
  put_failed : (end : RunEnd) (new : Seen) (next : List Put) → IsNextPut IsCut work old.left so_far.items next
      → FailsAt next end now.places new.places → new.reads ≡ now.reads → PutFails IsCut work end old new
  unfolding done
  put_failed end new next is_next stops reads =
      let S : Places → Type 0 = λ s. FailsAt next end s new.places in
      record {
        items = so_far.items;
        puts = so_far.puts;
        next = next;
        is_next = is_next;
        done = done;
        places = subst S so_far.places stops;
        reads = reads ∙ so_far.reads;
      }

  -- there was no memory
  wants_memory : (new : Seen) → work.grows ≡ true
      → ((item : I) × IfSome old.left (λ bytes. IsFront IsCut bytes (so_far.items ++ item ∷ [])))
      ⊎ IfSome old.left (λ bytes. IsCut bytes so_far.items None)
      → new.places ≡ now.places → new.reads ≡ now.reads → WantsMemory IsCut work old new
  unfolding done
  wants_memory new grows wanted places reads =
      record {
        grows = grows;
        items = so_far.items;
        puts = so_far.puts;
        wanted = wanted;
        done = done;
        places = places ∙ so_far.places;
        reads = reads ∙ so_far.reads;
      }

  -- the next item ends the pass
  pub ends_at_step : (item : I) (end : RunEnd) (new : Seen) → IfSome old.left (λ bytes. IsFront IsCut bytes (so_far.items ++ item ∷ []))
      → new.reads ≡ now.reads
      → StepEnds work (reverse so_far.items) now.places new.places item end → Stands IsCut work old new end
  ends_at_step item (Refused reason offset) new front reads ends =
      record {
        items = so_far.items;
        puts = so_far.puts;
        first = by_told old.left front;
        done = done;
        places = ends.1 ∙ so_far.places;
        reads = reads ∙ so_far.reads;
      }
    where
      by_told : (all : Option (List ℕ)) → IfSome all (λ bytes. IsFront IsCut bytes (so_far.items ++ item ∷ []))
          → IfSome all (λ bytes. IsFirstRefusal IsCut work bytes so_far.items reason offset)
      by_told None front = tt
      by_told (Some bytes) front = inr (inl (item, front, ends.0))
  ends_at_step item NoMemory new front reads ends = wants_memory new ends.0 (inl (item, front)) ends.1 reads
  ends_at_step item Done new front reads ends = absurd (no_other_end ends.1.0 Done now.places new.places ends.1.2 refl)
  ends_at_step item ReadFault new front reads ends = absurd (no_other_end ends.1.0 ReadFault now.places new.places ends.1.2 refl)
  ends_at_step item LaneFault new front reads ends = put_failed LaneFault new ends.1.0 (inl (item, front, ends.0, ends.1.1)) ends.1.2 reads
  ends_at_step item OutputFault new front reads ends =
      put_failed OutputFault new ends.1.0 (inl (item, front, ends.0, ends.1.1)) ends.1.2 reads
  ends_at_step item NoteFault new front reads ends = put_failed NoteFault new ends.1.0 (inl (item, front, ends.0, ends.1.1)) ends.1.2 reads

  -- the input ends if nothing of it is refused, and the pass is closed
  closed : (result : Result (Unit {0}) RunEnd) (new : Seen)
      → IfSome old.left (λ bytes. IsCut bytes so_far.items None × (new.left ≡ Some [])) → new.reads ≡ now.reads
      → work.refusal_at_end (reverse so_far.items) ≡ None
      → (puts : List Put) × work.IsPutAtEnd (reverse so_far.items) puts × PutsIn work.grows puts now.places new.places result
      → Stands IsCut work old new (end_of result)
  unfolding done
  closed result new cut reads fine closes = by_memory work.grows refl closes.2
    where
      by_told : (all : Option (List ℕ)) → IfSome all (λ bytes. IsCut bytes so_far.items None × (new.left ≡ Some []))
          → IfSome all (λ bytes. IsCut bytes so_far.items None)
      by_told None cut = tt
      by_told (Some bytes) cut = cut.0

      by_end : (e : RunEnd) → FailsAt closes.0 e now.places new.places → Stands IsCut work old new e
      by_end Done stops = absurd (no_other_end closes.0 Done now.places new.places stops refl)
      by_end (Refused reason offset) stops = absurd (no_other_end closes.0 (Refused reason offset) now.places new.places stops refl)
      by_end ReadFault stops = absurd (no_other_end closes.0 ReadFault now.places new.places stops refl)
      by_end NoMemory stops = absurd (no_other_end closes.0 NoMemory now.places new.places stops refl)
      by_end LaneFault stops = put_failed LaneFault new closes.0 (inr (by_told old.left cut, fine, closes.1)) stops reads
      by_end OutputFault stops = put_failed OutputFault new closes.0 (inr (by_told old.left cut, fine, closes.1)) stops reads
      by_end NoteFault stops = put_failed NoteFault new closes.0 (inr (by_told old.left cut, fine, closes.1)) stops reads

      by_result : (r : Result (Unit {0}) RunEnd) → Puts closes.0 now.places new.places r → Stands IsCut work old new (end_of r)
      by_result (Ok nothing) puts =
          record {
            items = so_far.items;
            puts = so_far.puts;
            last = closes.0;
            cut = cut;
            done = done;
            fine = fine;
            at_end = closes.1;
            places = then_put so_far.puts closes.0 old.places now.places new.places so_far.places puts;
            reads = reads ∙ so_far.reads;
          }
      by_result (Err end) stops = by_end end stops

      by_memory : (grows : Bool) → work.grows ≡ grows → PutsIn grows closes.0 now.places new.places result
          → Stands IsCut work old new (end_of result)
      by_memory false e puts = by_result result puts
      by_memory true e (inl puts) = by_result result puts
      by_memory true e (inr none) =
          let S : Result (Unit {0}) RunEnd → Type 0 = λ r. Stands IsCut work old new (end_of r) in
          subst S (sym none.0) (wants_memory new e (inr (by_told old.left cut)) none.1 reads)

  -- the input ends, and the pass is closed or its end refused
  pub ends_at_close : (result : Result (Unit {0}) RunEnd) (new : Seen)
      → IfSome old.left (λ bytes. IsCut bytes so_far.items None × (new.left ≡ Some [])) → new.reads ≡ now.reads
      → Closes work (reverse so_far.items) now.places new.places result → Stands IsCut work old new (end_of result)
  unfolding done
  ends_at_close result new cut reads closes = by_refusal (work.refusal_at_end (reverse so_far.items)) refl closes
    where
      by_told : (reason : Reason) (offset : ℕ) → work.refusal_at_end (reverse so_far.items) ≡ Some (reason, offset)
          → (all : Option (List ℕ)) → IfSome all (λ bytes. IsCut bytes so_far.items None × (new.left ≡ Some []))
          → IfSome all (λ bytes. IsFirstRefusal IsCut work bytes so_far.items reason offset)
      by_told reason offset e None cut = tt
      by_told reason offset e (Some bytes) cut = inr (inr (cut.0, e))

      by_refusal : (refusal : Tail) → work.refusal_at_end (reverse so_far.items) ≡ refusal
          → ClosesBy work (reverse so_far.items) now.places new.places refusal result → Stands IsCut work old new (end_of result)
      by_refusal None e closes = closed result new cut reads e closes
      by_refusal (Some (reason, offset)) e closes =
          let S : Result (Unit {0}) RunEnd → Type 0 = λ r. Stands IsCut work old new (end_of r) in
          subst S (sym closes.0)
          (record {
            items = so_far.items;
            puts = so_far.puts;
            first = by_told reason offset e old.left cut;
            done = done;
            places = closes.1 ∙ so_far.places;
            reads = reads ∙ so_far.reads;
          })

  -- the reading is refused
  pub ends_refused : (reason : Reason) (offset : ℕ) (new : Seen)
      → IfSome old.left (λ bytes. IsCut bytes so_far.items (Some (reason, offset))) → new.places ≡ now.places → new.reads ≡ now.reads
      → Stands IsCut work old new (Refused reason offset)
  ends_refused reason offset new cut places reads =
      record {
        items = so_far.items;
        puts = so_far.puts;
        first = by_told old.left cut;
        done = done;
        places = places ∙ so_far.places;
        reads = reads ∙ so_far.reads;
      }
    where
      by_told : (all : Option (List ℕ)) → IfSome all (λ bytes. IsCut bytes so_far.items (Some (reason, offset)))
          → IfSome all (λ bytes. IsFirstRefusal IsCut work bytes so_far.items reason offset)
      by_told None cut = tt
      by_told (Some bytes) cut = inl cut

  -- a read failed
  pub ends_failed : (new : Seen) → IfSome old.left (λ bytes. HasGivenUp IsCut bytes new.left so_far.items) → new.places ≡ now.places
      → Rose now.reads new.reads → Stands IsCut work old new ReadFault
  ends_failed new given places rose =
      let R : ℕ → Type 0 = λ n. Rose n new.reads in
      record {
        items = so_far.items;
        puts = so_far.puts;
        given = given;
        done = done;
        places = places ∙ so_far.places;
        reads = subst R so_far.reads rose;
      }
