-- What a reader has given out so far of a stream: the invariant of a loop over a reader.
use Rattle.std.specs.Prelude.{◌≡◌, ℕ, ◌≤◌, List, [], ◌∷◌, ◌++◌, length, Option, None, refl}
use Rattle.std.specs.List.{concat, AllByRecursion}
use Rattle.std.proofs.Common.{subst}
use Rattle.std.proofs.Math.Nat.{le-add_right, zero-add}
use Rattle.item_reader.specs.Cut.{IsItem, IsCutInto, items_from}
use Rattle.outside.specs.Outside.{Loses, ahead}
use Rattle.item_reader.specs.Reading.{Reading, new_reading}
use Rattle.outside.specs.Runs.{runs_are_lost}
use Rattle.item_reader.specs.declared.cutting.Tail.{Tail}

-- What a reader has given of a stream: all that the source had at first, if it tells that, what it has left, and the items given.
pub record Given (Item : Type 0) : Type 0 where
  pub all : Option (List ℕ)
  pub left : Option (List ℕ)
  pub items : List Item

abbrev pub given : {Item : Type 0} → Option (List ℕ) → Option (List ℕ) → List Item → Given Item
given all left items = record { all = all; left = left; items = items }

none_within : (limit : ℕ) → 0 ≤ limit
none_within limit = let P : ℕ → Type 0 = λ n. 0 ≤ n in subst P (zero-add limit) (le-add_right 0 limit)

module _ {How Item : Type 0} (asked : List ℕ → ℕ) (item_of : ℕ → List ℕ → Item) (how : How) (limit : ℕ) where
  -- The reader has given this, and goes on.
  pub record ReadSoFar (reader : Reading How) (so_far : Given Item) : Type 0 where
    pub chunks : List (List ℕ)
    pub same : so_far.items ≡ items_from item_of 0 chunks
    pub place : reader ≡ record { how = how; pending = reader.pending; offset = length (concat chunks); limit = limit; end = None }
    pub within : length (concat chunks) ≤ limit
    pub each : AllByRecursion (IsItem asked) chunks
    pub lost : Loses so_far.all (ahead reader.pending so_far.left) (concat chunks)

  -- a new reader has given out no item
  pub start : (left : Option (List ℕ)) → ReadSoFar (new_reading how limit) (given left left [])
  start left = record { chunks = []; same = refl; place = refl; within = none_within limit; each = tt; lost = runs_are_lost.none left }

-- after these items of a stream comes this one, and perhaps more
pub record StandsBehind {Item : Type 0} (asked : List ℕ → ℕ) (item_of : ℕ → List ℕ → Item) (limit : ℕ) (bytes : List ℕ) (before : List Item)
    (item : Item) : Type 0 where
  pub after : List Item
  pub tail : Tail
  pub cut : IsCutInto asked item_of limit bytes (before ++ item ∷ after) tail
