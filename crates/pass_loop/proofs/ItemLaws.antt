-- An input that is cut into items by their lengths, read item by item.
use Rattle.std.proofs.Common.{◌≡◌, ◌+◌, ◌≤◌, ℕ, List, [], ◌∷◌, ◌++◌, length, Option, None, Some, refl, ap, sym, subst, arith, inl, inr}
use Rattle.std.specs.Prelude.{IfSome, ◌⊎◌}
use Rattle.std.specs.List.{concat}
use Rattle.std.proofs.lemmas.List.{append_assoc, append-nil}
use Rattle.item_reader.specs.Cut.{IsCutInto, IsRest}
use Rattle.item_reader.specs.CutLaws.{ItemsAreReadInOrder}
use Rattle.outside.specs.Outside.{Loses, ahead}
use Rattle.item_reader.specs.Reading.{Cursor, Reading, Gives, Finishes, IsBrought, Waits, cursor}
use Rattle.item_reader.specs.SoFar.{ReadSoFar, given}
use Rattle.item_reader.specs.declared.cutting.Tail.{Tail}
use Rattle.item_reader.specs.declared.cutting.Tail.TheVariants as tail
use Rattle.pass_loop.specs.ItemLaws.{ItemsAreTakenInOrder}
use Rattle.pass_loop.specs.Items.{after_offset, item_cutting, limit, refusal_at}
use Rattle.pass_loop.specs.Pass.{HasGivenUp, IsFront}
use Rattle.pass_loop.specs.declared.ends.Reason.TheVariants.{Truncated}

-- an item that is given out, after its offset
pub placed : {How Item : Type 0} (asked : List ℕ → ℕ) (item_of : ℕ → List ℕ → Item × ℕ) (old new : Cursor How) (item : Item × ℕ)
    → Gives asked old new item_of item
    → Gives asked old new (after_offset item_of) (item.1, item.0)
placed {Item = Item} asked item_of old new item gives =
    record {
      chunk = gives.chunk;
      is_item = gives.is_item;
      lost = gives.lost;
      item_is = ap (λ (g : Item × ℕ). (g.1, g.0)) gives.item_is;
      within = gives.within;
      goes_on = gives.goes_on;
    }

both : (all : Option (List ℕ)) (P Q : List ℕ → Type 0) → IfSome all P → IfSome all Q → IfSome all (λ bytes. P bytes × Q bytes)
both None P Q p q = tt
both (Some bytes) P Q p q = (p, q)

-- the chunks of a front are its whole cutting
fronts : {How Item : Type 0} (asked : List ℕ → ℕ) (item_of : ℕ → List ℕ → Item) (how : How) (reader : Reading How)
    (all now : Option (List ℕ)) (items : List Item) (read : ReadSoFar asked item_of how limit reader (given all now items))
    → (all' ahead' : Option (List ℕ)) → Loses all' ahead' (concat read.chunks)
    → IfSome all' (λ bytes. IsFront (item_cutting asked item_of) bytes items)
fronts asked item_of how reader all now items read None ahead' lost = tt
fronts asked item_of how reader all now items read (Some bytes) None lost = absurd lost
fronts asked item_of how reader all now items read (Some bytes) (Some rest) lost = (
  concat read.chunks,
  rest,
  lost,
  (
    tail.End,
    record {
      chunks = read.chunks;
      cuts =
          record { rest = []; whole = sym (append-nil (concat read.chunks)); each = read.each; ends = (refl, omega (arith, read.within)) };
      same = read.same;
    },
    refl,
  ),
)

module _ {How Item : Type 0} (asked : How → List ℕ → ℕ) (item_of : How → ℕ → List ℕ → Item) (laws : ItemsAreReadInOrder asked item_of)
    (how : How) (reader : Reading How) (all left : Option (List ℕ)) (items : List Item)
    (so_far : ReadSoFar (asked how) (item_of how) how limit reader (given all left items)) where
  -- one more item
  given_more : (reader' : Reading How) (left' : Option (List ℕ)) (item : Item)
      → Gives (asked reader.how) (cursor reader left) (cursor reader' left') (item_of reader.how) item
      → ReadSoFar (asked how) (item_of how) how limit reader' (given all left' (items ++ item ∷ []))
  given_more reader' left' item gives = laws.step how limit reader all left items so_far reader' left' item gives

  front_more : (reader' : Reading How) (left' : Option (List ℕ)) (item : Item)
      → Gives (asked reader.how) (cursor reader left) (cursor reader' left') (item_of reader.how) item
      → IfSome all (λ bytes. IsFront (item_cutting (asked how) (item_of how)) bytes (items ++ item ∷ []))
  front_more reader' left' item gives =
      let more = laws.step how limit reader all left items so_far reader' left' item gives in
      fronts (asked how) (item_of how) how reader' all left' (items ++ item ∷ []) more all (ahead reader'.pending left') more.lost

  -- more was read
  brought_more : (reader' : Reading How) (left' : Option (List ℕ)) → IsBrought (asked reader.how) (cursor reader left) (cursor reader' left')
      → ReadSoFar (asked how) (item_of how) how limit reader' (given all left' items)
  brought_more reader' left' brought = laws.brought how limit reader all left items so_far reader' left' brought

  -- the items end with this tail
  at_tail : (reader' : Reading How) (left' : Option (List ℕ)) (tail : Tail)
      → Finishes (asked reader.how) (cursor reader left) (cursor reader' left') tail
      → IfSome all (λ bytes. item_cutting (asked how) (item_of how) bytes items (refusal_at tail))
  at_tail reader' left' tail ends = by_told all (laws.finishes how limit reader all left items so_far reader' left' tail ends)
    where
      by_told : (all' : Option (List ℕ)) → IfSome all' (λ bytes. IsCutInto (asked how) (item_of how) limit bytes items tail)
          → IfSome all' (λ bytes. item_cutting (asked how) (item_of how) bytes items (refusal_at tail))
      by_told None cut = tt
      by_told (Some bytes) cut = (tail, cut, refl)

  -- the input ends
  at_end : (reader' : Reading How) (left' : Option (List ℕ))
      → Finishes (asked reader.how) (cursor reader left) (cursor reader' left') tail.End
      → IfSome all (λ bytes. item_cutting (asked how) (item_of how) bytes items None × (left' ≡ Some []))
  at_end reader' left' ends =
      both all (λ bytes. item_cutting (asked how) (item_of how) bytes items None) (λ bytes. left' ≡ Some [])
      (at_tail reader' left' tail.End ends) (laws.nothing_left how limit reader all left items so_far reader' left' ends)

  -- a read failed, and the same is given still
  still_given : (reader' : Reading How) (left' : Option (List ℕ)) → Waits (asked reader.how) (cursor reader left) (cursor reader' left')
      → ReadSoFar (asked how) (item_of how) how limit reader' (given all left' items)
  still_given reader' left' waits = laws.waits how limit reader all left items so_far reader' left' waits

  at_fault : (reader' : Reading How) (left' : Option (List ℕ)) → Waits (asked reader.how) (cursor reader left) (cursor reader' left')
      → IfSome all (λ bytes. HasGivenUp (item_cutting (asked how) (item_of how)) bytes left' items)
  at_fault reader' left' waits =
      let chunks : List ℕ = concat so_far.chunks in
      let L : Option (List ℕ) → Type 0 = λ now. Loses all now chunks in
      let R : Reading How → Type 0 = λ r. IsRest (asked r.how) reader'.pending in
      let W : Reading How → Type 0 = λ r. r.offset + length reader'.pending ≤ r.limit in
      by_told all left' (subst L (sym waits.same) so_far.lost)
      (cut_by reader'.pending (subst R so_far.place waits.partial) (subst W so_far.place waits.within))
    where
      cut_by : (rest : List ℕ) → IsRest (asked how) rest → length (concat so_far.chunks) + length rest ≤ limit
          → item_cutting (asked how) (item_of how) (concat so_far.chunks ++ rest) items None
          ⊎ ((offset : ℕ) × item_cutting (asked how) (item_of how) (concat so_far.chunks ++ rest) items (Some (Truncated, offset)))
      cut_by [] is_rest fits =
          inl (
            tail.End,
            (record {
              chunks = so_far.chunks;
              cuts = record { rest = []; whole = refl; each = so_far.each; ends = (refl, omega (arith, so_far.within)) };
              same = so_far.same;
            }),
            refl,
          )
      cut_by (byte ∷ rest) is_rest fits =
          let at : ℕ = 0 + length (concat so_far.chunks) in
          inr (
            at,
            (
              tail.Truncated at,
              (record {
                chunks = so_far.chunks;
                cuts = record {
                  rest = byte ∷ rest;
                  whole = refl;
                  each = so_far.each;
                  ends = (refl, omega arith, is_rest, omega (arith, fits));
                };
                same = so_far.same;
              }),
              refl,
            ),
          )

      by_told : (all' left'' : Option (List ℕ)) → Loses all' (ahead reader'.pending left'') (concat so_far.chunks)
          → item_cutting (asked how) (item_of how) (concat so_far.chunks ++ reader'.pending) items None
          ⊎ ((offset : ℕ)
          × item_cutting (asked how) (item_of how) (concat so_far.chunks ++ reader'.pending) items (Some (Truncated, offset)))
          → IfSome all' (λ bytes. HasGivenUp (item_cutting (asked how) (item_of how)) bytes left'' items)
      by_told None left'' lost cut = tt
      by_told (Some bytes) None lost cut = absurd lost
      by_told (Some bytes) (Some rest) lost cut =
          record {
            given = concat so_far.chunks ++ reader'.pending;
            rest = rest;
            parts = let e = append_assoc (concat so_far.chunks) reader'.pending rest in cc;
            left_is = refl;
            cut = cut;
          }

pub taken_in_order : {How Item : Type 0} (asked : How → List ℕ → ℕ) (item_of : How → ℕ → List ℕ → Item) → ItemsAreReadInOrder asked item_of
    → ItemsAreTakenInOrder asked item_of
taken_in_order asked item_of laws =
    record {
      given_more = λ how reader all left items so_far. given_more asked item_of laws how reader all left items so_far;
      front_more = λ how reader all left items so_far. front_more asked item_of laws how reader all left items so_far;
      brought_more = λ how reader all left items so_far. brought_more asked item_of laws how reader all left items so_far;
      at_tail = λ how reader all left items so_far. at_tail asked item_of laws how reader all left items so_far;
      at_end = λ how reader all left items so_far. at_end asked item_of laws how reader all left items so_far;
      still_given = λ how reader all left items so_far. still_given asked item_of laws how reader all left items so_far;
      at_fault = λ how reader all left items so_far. at_fault asked item_of laws how reader all left items so_far;
    }
