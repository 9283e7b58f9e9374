-- A pass over an input: how the input is cut into items, what is done with each, and what stands at each end.
use Rattle.std.specs.Prelude.{◌≡◌, ◌⊎◌, ℕ, Bool, true, false, List, [], ◌∷◌, ◌++◌, reverse, Option, None, Some, IfSome, Result, Ok, Err}
use Rattle.outside.specs.Outside.{Rose}
use Rattle.outside.specs.declared.objects.Lanes as lanes
use Rattle.outside.specs.declared.objects.Sink as sink
use Rattle.outside.specs.declared.objects.Source as source
use Rattle.pass_loop.specs.Named.{Named, SparesOthers}
use Rattle.pass_loop.specs.Places.{Places, places, over_puts, FailsAt, Puts}
use Rattle.pass_loop.specs.Put.{Put}
use Rattle.pass_loop.specs.declared.ends.Reason.{Reason}
use Rattle.pass_loop.specs.declared.ends.Reason.TheVariants.{Truncated}
use Rattle.pass_loop.specs.declared.ends.RunEnd.{RunEnd}
use Rattle.pass_loop.specs.declared.ends.RunEnd.TheVariants.{Done, Refused, ReadFault, NoMemory}

-- the content of all objects of a run, as far as a contract can see it, and their counts of faults
pub record Seen : Type 0 where
  pub left : Option (List ℕ)
  pub reads : ℕ
  pub places : Places

abbrev pub seen : {S L W N : Type 0} → source.Ghosts S → lanes.Ghosts L → sink.Ghosts W → sink.Ghosts N → S →
    L → W → N → Seen
seen S L W N s l w n = record { left = S.left s; reads = S.faults s; places = places L W N l w n }

-- the same of places that are given as one value
abbrev pub seen_with : {S : Type 0} → source.Ghosts S → S → Places → Seen
seen_with S s places = record { left = S.left s; reads = S.faults s; places = places }

-- how the items of some bytes end: with the last byte, or with a refusal at an offset
abbrev pub Tail : Type 0
Tail = Option (Reason × ℕ)

-- these bytes are cut into these items, and then comes this tail
abbrev pub Cutting : Type 0 → Type 1
Cutting Item = List ℕ → List Item → Tail → Type 0

-- What is done with each item and at the end of the input, by the items before it, the newest first: which places it names; whether
-- it takes memory while it runs; why an item is refused, with the offset; what is put for it; why the input is refused at its end
-- after these items; what is put at the end; and what all that is put for the items means.
pub record Work (Item : Type 0) : Type 1 where
  pub names : Named
  pub grows : Bool
  pub refusal : List Item → Item → Tail
  pub IsPut : List Item → Item → List Put → Type 0
  pub refusal_at_end : List Item → Tail
  pub IsPutAtEnd : List Item → List Put → Type 0
  pub Means : List Item → List Put → Type 0

module _ {Item : Type 0} (work : Work Item) where
  -- none of these is refused
  abbrev pub AreAccepted : List Item → Type 0
  AreAccepted [] = Unit {0}
  AreAccepted (item ∷ past) = (work.refusal past item ≡ None) × AreAccepted past

  -- this is put for them, item by item
  abbrev pub ArePut : List Item → List Put → Type 0
  ArePut [] puts = puts ≡ []
  ArePut (item ∷ past) puts =
      (earlier : List Put) × (now : List Put) × ArePut past earlier × work.IsPut past item now
      × (puts ≡ earlier ++ now)

  -- these items are accepted, this is put for them, and it means what they mean
  pub record IsWork (items : List Item) (puts : List Put) : Type 0 where
    pub accepted : AreAccepted (reverse items)
    pub put : ArePut (reverse items) puts
    pub meaning : work.Means (reverse items) puts

-- ---- one item, and the end

-- these are put, or one of them failed; if memory is taken, there may be none, and nothing is put
abbrev pub PutsIn : Bool → List Put → Places → Places → Result (Unit {0}) RunEnd → Type 0
PutsIn false puts old new result = Puts puts old new result
PutsIn true puts old new result = Puts puts old new result ⊎ ((result ≡ Err NoMemory) × (new ≡ old))

module _ {Item : Type 0} (work : Work Item) (past : List Item) (old new : Places) where
  -- an item that ends the pass is refused, and nothing is put; or there is no memory for it, and nothing is put; or one of its puts
  -- failed
  abbrev pub StepEnds : Item → RunEnd → Type 0
  StepEnds item (Refused reason offset) = (work.refusal past item ≡ Some (reason, offset)) × (new ≡ old)
  StepEnds item NoMemory = (work.grows ≡ true) × (new ≡ old)
  StepEnds item end = (work.refusal past item ≡ None) × ((puts : List Put) × work.IsPut past item puts × FailsAt puts end old new)

  -- an item is accepted and its puts are put, or it ends the pass
  abbrev pub Steps : Item → Result (Unit {0}) RunEnd → Type 0
  Steps item (Ok done) =
      (work.refusal past item ≡ None)
      × ((puts : List Put) × work.IsPut past item puts × (new ≡ over_puts puts old))
  Steps item (Err end) = StepEnds item end

  -- the end of the input is refused, and nothing is put; or what is put there is put, or one of these puts failed; or there is no memory
  -- for it
  abbrev pub ClosesBy : Tail → Result (Unit {0}) RunEnd → Type 0
  ClosesBy (Some refusal) result = (result ≡ Err (Refused refusal.0 refusal.1)) × (new ≡ old)
  ClosesBy None result = (puts : List Put) × work.IsPutAtEnd past puts × PutsIn work.grows puts old new result

  abbrev pub Closes : Result (Unit {0}) RunEnd → Type 0
  Closes result = ClosesBy (work.refusal_at_end past) result

-- the same for the code of a step: an item is refused and nothing is put, or these are put, or one of them failed
abbrev pub Takes : Tail → List Put → Places → Places → Result (Unit {0}) RunEnd → Type 0
Takes (Some refusal) puts old new result = (result ≡ Err (Refused refusal.0 refusal.1)) × (new ≡ old)
Takes None puts old new result = Puts puts old new result

-- the same if memory is taken: there may be none, and then nothing is put
abbrev pub TakesIn : Bool → Tail → List Put → Places → Places → Result (Unit {0}) RunEnd → Type 0
TakesIn false refusal puts old new result = Takes refusal puts old new result
TakesIn true refusal puts old new result = Takes refusal puts old new result ⊎ ((result ≡ Err NoMemory) × (new ≡ old))

-- the end if what is put at the end of the input is put, or failed
abbrev pub end_of : Result (Unit {0}) RunEnd → RunEnd
end_of (Ok done) = Done
end_of (Err end) = end

-- ---- ends

-- items stand at the front of these bytes
abbrev pub IsFront : {Item : Type 0} → Cutting Item → List ℕ → List Item → Type 0
IsFront IsCut bytes items = (front rest : List ℕ) × (bytes ≡ front ++ rest) × IsCut front items None

-- The source gave a front of these bytes, and what is left is the rest; the items are those that lie wholly in that front.
pub record HasGivenUp {Item : Type 0} (IsCut : Cutting Item) (bytes : List ℕ) (left : Option (List ℕ)) (items : List Item) : Type 0 where
  pub given : List ℕ
  pub rest : List ℕ
  pub parts : bytes ≡ given ++ rest
  pub left_is : left ≡ Some rest
  pub cut : IsCut given items None ⊎ ((offset : ℕ) × IsCut given items (Some (Truncated, offset)))

module _ {Item : Type 0} (IsCut : Cutting Item) (work : Work Item) where
  -- the input was read to its end, nothing of it is refused, and all is put
  pub record IsDone (old new : Seen) : Type 0 where
    pub items : List Item
    pub puts : List Put
    pub last : List Put
    pub cut : IfSome old.left (λ bytes. IsCut bytes items None × (new.left ≡ Some []))
    pub done : IsWork work items puts
    pub fine : work.refusal_at_end (reverse items) ≡ None
    pub at_end : work.IsPutAtEnd (reverse items) last
    pub places : new.places ≡ over_puts (puts ++ last) old.places
    pub reads : new.reads ≡ old.reads

  -- after these items the bytes are refused, or the next item is, or the end of the input
  abbrev pub IsFirstRefusal : List ℕ → List Item → Reason → ℕ → Type 0
  IsFirstRefusal bytes items reason offset =
      IsCut bytes items (Some (reason, offset))
      ⊎ (((item : Item) × IsFront IsCut bytes (items ++ item ∷ [])
      × (work.refusal (reverse items) item ≡ Some (reason, offset)))
      ⊎ (IsCut bytes items None × (work.refusal_at_end (reverse items) ≡ Some (reason, offset))))

  -- the first refusal: what is put is that of exactly the items before it
  pub record IsRefused (reason : Reason) (offset : ℕ) (old new : Seen) : Type 0 where
    pub items : List Item
    pub puts : List Put
    pub first : IfSome old.left (λ bytes. IsFirstRefusal bytes items reason offset)
    pub done : IsWork work items puts
    pub places : new.places ≡ over_puts puts old.places
    pub reads : new.reads ≡ old.reads

  -- a read failed: what is put is that of exactly the items that lie wholly in what the source gave
  pub record ReadFails (old new : Seen) : Type 0 where
    pub items : List Item
    pub puts : List Put
    pub given : IfSome old.left (λ bytes. HasGivenUp IsCut bytes new.left items)
    pub done : IsWork work items puts
    pub places : new.places ≡ over_puts puts old.places
    pub reads : Rose old.reads new.reads

  -- what is put for the next item, or at the end of the input
  abbrev pub IsNextPut : Option (List ℕ) → List Item → List Put → Type 0
  IsNextPut all items puts =
      ((item : Item) × IfSome all (λ bytes. IsFront IsCut bytes (items ++ item ∷ []))
      × (work.refusal (reverse items) item ≡ None) × work.IsPut (reverse items) item puts)
      ⊎ (IfSome all (λ bytes. IsCut bytes items None) × (work.refusal_at_end (reverse items) ≡ None)
      × work.IsPutAtEnd (reverse items) puts)

  -- A put failed: all is put for the items before the one that it belongs to, and of that one, or at the end of the input, all
  -- before the put that failed and perhaps a part of it.
  pub record PutFails (end : RunEnd) (old new : Seen) : Type 0 where
    pub items : List Item
    pub puts : List Put
    pub next : List Put
    pub is_next : IsNextPut old.left items next
    pub done : IsWork work items puts
    pub places : FailsAt next end (over_puts puts old.places) new.places
    pub reads : new.reads ≡ old.reads

  -- There was no memory for the next item, or at the end of the input for what is put there: what is put is that of exactly the items
  -- before it.
  pub record WantsMemory (old new : Seen) : Type 0 where
    pub grows : work.grows ≡ true
    pub items : List Item
    pub puts : List Put
    pub wanted : ((item : Item) × IfSome old.left (λ bytes. IsFront IsCut bytes (items ++ item ∷ [])))
        ⊎ IfSome old.left (λ bytes. IsCut bytes items None)
    pub done : IsWork work items puts
    pub places : new.places ≡ over_puts puts old.places
    pub reads : new.reads ≡ old.reads

  -- what stands at each end
  abbrev pub Stands : Seen → Seen → RunEnd → Type 0
  Stands old new Done = IsDone old new
  Stands old new (Refused reason offset) = IsRefused reason offset old new
  Stands old new ReadFault = ReadFails old new
  Stands old new NoMemory = WantsMemory old new
  Stands old new end = PutFails end old new

  -- what each end says: what stands, and that what isn't named is unchanged
  abbrev pub Ends : Seen → Seen → RunEnd → Type 0
  Ends old new end = Stands old new end × SparesOthers work.names end old.places new.places

  -- nothing of these bytes is refused
  abbrev pub HasNoRefusal : List ℕ → Type 0
  HasNoRefusal bytes =
      (items : List Item) × IsCut bytes items None × AreAccepted work (reverse items)
      × (work.refusal_at_end (reverse items) ≡ None)

-- a pass over an input: how it is cut into items, and what is done with them
pub record Pass : Type 1 where
  pub Item : Type 0
  pub IsCut : Cutting Item
  pub work : Work Item

-- no count of faults rose
abbrev pub NothingFails : Seen → Seen → Type 0
NothingFails old new =
    (Rose old.reads new.reads → ⊥) × (Rose old.places.faults.lanes new.places.faults.lanes → ⊥)
    × (Rose old.places.faults.output new.places.faults.output → ⊥)
    × (Rose old.places.faults.notes new.places.faults.notes → ⊥)

-- it is done; a pass that takes memory while it runs may have found none
abbrev pub IsDoneIn : Bool → RunEnd → Type 0
IsDoneIn false end = end ≡ Done
IsDoneIn true end = (end ≡ Done) ⊎ (end ≡ NoMemory)

-- if nothing is refused and nothing fails, the pass is done
abbrev pub IsDoneUnless : {Item : Type 0} → Cutting Item → Work Item → Seen → Seen → RunEnd → Type 0
IsDoneUnless IsCut work old new end =
    IfSome old.left (λ bytes. HasNoRefusal IsCut work bytes → NothingFails old new → IsDoneIn work.grows end)

-- What holds of a way of cutting: bytes are cut in one way only, and a front of them begins as they do, also if they are refused
-- later.
pub record CutsOnce {Item : Type 0} (IsCut : Cutting Item) : Type 0 where
  pub one : (bytes : List ℕ) (items others : List Item) (tail other : Tail) → IsCut bytes items tail →
      IsCut bytes others other → (items ≡ others) × (tail ≡ other)
  pub front : (bytes : List ℕ) (items first : List Item) (tail : Tail) → IsCut bytes items tail →
      IsFront IsCut bytes first → (rest : List Item) × (items ≡ first ++ rest)
