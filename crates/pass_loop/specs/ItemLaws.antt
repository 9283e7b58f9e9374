-- What holds of each reader that cuts an input into items by their lengths.
use Rattle.std.specs.Prelude.{◌≡◌, ℕ, List, [], ◌∷◌, ◌++◌, Option, None, Some, IfSome}
use Rattle.item_reader.specs.Reading.{Reading, Gives, Finishes, IsBrought, Waits, cursor}
use Rattle.item_reader.specs.SoFar.{ReadSoFar, given}
use Rattle.item_reader.specs.declared.cutting.Tail.{Tail}
use Rattle.item_reader.specs.declared.cutting.Tail.TheVariants.{End}
use Rattle.pass_loop.specs.Items.{item_cutting, limit, refusal_at}
use Rattle.pass_loop.specs.Pass.{HasGivenUp, IsFront}

-- Of a reader that has given these items of all that there was and goes on: one more item stands after the others at the front of the
-- input; when more was read, it has given the same; when it ends, the items are those of the input, which ends so; if a read failed,
-- it has given the same and goes on, and the items are those that lie wholly in what was given.
pub record ItemsAreTakenInOrder {How Item : Type 0} (asked : How → List ℕ → ℕ) (item_of : How → ℕ → List ℕ → Item) : Type 0 where
  pub given_more : (how : How) (reader : Reading How) (all left : Option (List ℕ)) (items : List Item) →
      ReadSoFar (asked how) (item_of how) how limit reader (given all left items) →
      (reader' : Reading How) (left' : Option (List ℕ)) (item : Item) →
      Gives (asked reader.how) (cursor reader left) (cursor reader' left') (item_of reader.how) item →
      ReadSoFar (asked how) (item_of how) how limit reader' (given all left' (items ++ item ∷ []))
  pub front_more : (how : How) (reader : Reading How) (all left : Option (List ℕ)) (items : List Item) →
      ReadSoFar (asked how) (item_of how) how limit reader (given all left items) →
      (reader' : Reading How) (left' : Option (List ℕ)) (item : Item) →
      Gives (asked reader.how) (cursor reader left) (cursor reader' left') (item_of reader.how) item →
      IfSome all (λ bytes. IsFront (item_cutting (asked how) (item_of how)) bytes (items ++ item ∷ []))
  pub brought_more : (how : How) (reader : Reading How) (all left : Option (List ℕ)) (items : List Item) →
      ReadSoFar (asked how) (item_of how) how limit reader (given all left items) →
      (reader' : Reading How) (left' : Option (List ℕ)) →
      IsBrought (asked reader.how) (cursor reader left) (cursor reader' left') →
      ReadSoFar (asked how) (item_of how) how limit reader' (given all left' items)
  pub at_tail : (how : How) (reader : Reading How) (all left : Option (List ℕ)) (items : List Item) →
      ReadSoFar (asked how) (item_of how) how limit reader (given all left items) →
      (reader' : Reading How) (left' : Option (List ℕ)) (tail : Tail) →
      Finishes (asked reader.how) (cursor reader left) (cursor reader' left') tail →
      IfSome all (λ bytes. item_cutting (asked how) (item_of how) bytes items (refusal_at tail))
  pub at_end : (how : How) (reader : Reading How) (all left : Option (List ℕ)) (items : List Item) →
      ReadSoFar (asked how) (item_of how) how limit reader (given all left items) →
      (reader' : Reading How) (left' : Option (List ℕ)) →
      Finishes (asked reader.how) (cursor reader left) (cursor reader' left') End →
      IfSome all (λ bytes. item_cutting (asked how) (item_of how) bytes items None × (left' ≡ Some []))
  pub still_given : (how : How) (reader : Reading How) (all left : Option (List ℕ)) (items : List Item) →
      ReadSoFar (asked how) (item_of how) how limit reader (given all left items) →
      (reader' : Reading How) (left' : Option (List ℕ)) →
      Waits (asked reader.how) (cursor reader left) (cursor reader' left') →
      ReadSoFar (asked how) (item_of how) how limit reader' (given all left' items)
  pub at_fault : (how : How) (reader : Reading How) (all left : Option (List ℕ)) (items : List Item) →
      ReadSoFar (asked how) (item_of how) how limit reader (given all left items) →
      (reader' : Reading How) (left' : Option (List ℕ)) →
      Waits (asked reader.how) (cursor reader left) (cursor reader' left') →
      IfSome all (λ bytes. HasGivenUp (item_cutting (asked how) (item_of how)) bytes left' items)
