-- What holds of all streams, however they are cut into items.
use Rattle.std.specs.Prelude.{◌≡◌, ℕ, List, [], ◌∷◌, ◌++◌, Option, Some, IfSome}
use Rattle.item_reader.specs.Cut.{Cuts, IsCutInto}
use Rattle.item_reader.specs.Reading.{Reading, Gives, IsBrought, Waits, Finishes, cursor}
use Rattle.item_reader.specs.SoFar.{ReadSoFar, StandsBehind, given}
use Rattle.item_reader.specs.declared.cutting.Tail.{Tail}
use Rattle.item_reader.specs.declared.cutting.Tail.TheVariants.{End}

module _ (asked : List ℕ → ℕ) where
  abbrev pub StreamsAreCutInOneWay : Type 0
  StreamsAreCutInOneWay =
      (limit : ℕ) (bytes : List ℕ) (cs ds : List (List ℕ)) (t u : Tail) →
      Cuts asked limit bytes cs t → Cuts asked limit bytes ds u → (cs ≡ ds) × (t ≡ u)

  abbrev pub FrontsAreCutAsTheStream : Type 0
  FrontsAreCutAsTheStream =
      (limit : ℕ) (front more : List ℕ) (chunks first : List (List ℕ)) (tail : Tail) →
      Cuts asked limit (front ++ more) chunks tail → Cuts asked limit front first End →
      (rest : List (List ℕ)) × (chunks ≡ first ++ rest)

  abbrev pub EveryStreamIsCut : Type 0
  EveryStreamIsCut = (limit : ℕ) (bytes : List ℕ) → (chunks : List (List ℕ)) × (tail : Tail) × Cuts asked limit bytes chunks tail

-- A stream is cut in one way, a front of it begins, and each is cut.
pub record CutsStreams (asked : List ℕ → ℕ) : Type 0 where
  pub one : StreamsAreCutInOneWay asked
  pub front : FrontsAreCutAsTheStream asked
  pub some : EveryStreamIsCut asked

-- By what a reader that goes on has given of a stream (`before`, of which `now` is left), and by its next answer: with one more
-- item it has given that too, and it stands in the stream after the others; if a read failed it has given the same, and goes
-- on; at the end the stream is cut into its items, and if it ends with the last of them nothing is left.
pub record ItemsAreReadInOrder {How Item : Type 0} (asked : How → List ℕ → ℕ) (item_of : How → ℕ → List ℕ → Item) : Type 0 where
  pub step : (how : How) (limit : ℕ) (reader : Reading How) (before now : Option (List ℕ)) (read : List Item) →
      ReadSoFar (asked how) (item_of how) how limit reader (given before now read) →
      (reader' : Reading How) (now' : Option (List ℕ)) (item : Item) →
      Gives (asked reader.how) (cursor reader now) (cursor reader' now') (item_of reader.how) item →
      ReadSoFar (asked how) (item_of how) how limit reader' (given before now' (read ++ item ∷ []))
  pub waits : (how : How) (limit : ℕ) (reader : Reading How) (before now : Option (List ℕ)) (read : List Item) →
      ReadSoFar (asked how) (item_of how) how limit reader (given before now read) →
      (reader' : Reading How) (now' : Option (List ℕ)) →
      Waits (asked reader.how) (cursor reader now) (cursor reader' now') →
      ReadSoFar (asked how) (item_of how) how limit reader' (given before now' read)
  pub brought : (how : How) (limit : ℕ) (reader : Reading How) (before now : Option (List ℕ)) (read : List Item) →
      ReadSoFar (asked how) (item_of how) how limit reader (given before now read) →
      (reader' : Reading How) (now' : Option (List ℕ)) →
      IsBrought (asked reader.how) (cursor reader now) (cursor reader' now') →
      ReadSoFar (asked how) (item_of how) how limit reader' (given before now' read)
  pub stands_behind : (how : How) (limit : ℕ) (reader : Reading How) (before now : Option (List ℕ)) (read : List Item) →
      ReadSoFar (asked how) (item_of how) how limit reader (given before now read) →
      (reader' : Reading How) (now' : Option (List ℕ)) (item : Item) →
      Gives (asked reader.how) (cursor reader now) (cursor reader' now') (item_of reader.how) item →
      IfSome before (λ bytes. StandsBehind (asked how) (item_of how) limit bytes read item)
  pub finishes : (how : How) (limit : ℕ) (reader : Reading How) (before now : Option (List ℕ)) (read : List Item) →
      ReadSoFar (asked how) (item_of how) how limit reader (given before now read) →
      (reader' : Reading How) (now' : Option (List ℕ)) (tail : Tail) →
      Finishes (asked reader.how) (cursor reader now) (cursor reader' now') tail →
      IfSome before (λ bytes. IsCutInto (asked how) (item_of how) limit bytes read tail)
  pub nothing_left : (how : How) (limit : ℕ) (reader : Reading How) (before now : Option (List ℕ)) (read : List Item) →
      ReadSoFar (asked how) (item_of how) how limit reader (given before now read) →
      (reader' : Reading How) (now' : Option (List ℕ)) →
      Finishes (asked reader.how) (cursor reader now) (cursor reader' now') End →
      IfSome before (λ bytes. now' ≡ Some [])
