-- What the items that a reader has given so far are with one more of them, after a failed read, and at the end.
use Rattle.std.proofs.Common.{◌≡◌, ◌+◌, ◌≤◌, ℕ, List, [], ◌∷◌, ◌++◌, length, Option, None, Some, refl, ap, sym, ◌∙◌, arith, subst, zero-add}
use Rattle.std.specs.Prelude.{IfSome}
use Rattle.std.specs.List.{concat, AllByRecursion}
use Rattle.std.proofs.lemmas.List.{append_assoc, append-nil, length-append, nil_from_length}
use Rattle.item_reader.specs.Cut.{IsItem, IsCutInto, IsLength, items_from, Ends}
use Rattle.item_reader.specs.CutLaws.{ItemsAreReadInOrder}
use Rattle.outside.specs.Outside.{Loses, ahead}
use Rattle.item_reader.specs.Reading.{Reading, Gives, IsBrought, Waits, Finishes, cursor}
use Rattle.outside.specs.Runs.{runs_are_lost}
use Rattle.item_reader.specs.SoFar.{ReadSoFar, StandsBehind, given}
use Rattle.item_reader.specs.declared.cutting.Tail.{Tail}
use Rattle.item_reader.specs.declared.cutting.Tail.TheVariants.{End}
use Rattle.item_reader.proofs.CutLaws.{some_cutting, cuts_behind}

AllByRecursion-append : {X : Type 0} (P : X → Type 0) (xs ys : List X) → AllByRecursion P xs → AllByRecursion P ys
    → AllByRecursion P (xs ++ ys)
AllByRecursion-append P [] ys p q = q
AllByRecursion-append P (x ∷ xs) ys p q = (p.0, AllByRecursion-append P xs ys p.1 q)

concat-push : (cs : List (List ℕ)) (c : List ℕ) → concat (cs ++ c ∷ []) ≡ concat cs ++ c
concat-push [] c = append-nil c
concat-push (b ∷ cs) c = ap (λ xs. b ++ xs) (concat-push cs c) ∙ sym (append_assoc b (concat cs) c)

items_from-append : {Item : Type 0} (item_of : ℕ → List ℕ → Item) (at : ℕ) (cs ds : List (List ℕ))
    → items_from item_of at (cs ++ ds) ≡ items_from item_of at cs ++ items_from item_of (at + length (concat cs)) ds
items_from-append item_of at [] ds = ap (λ n. items_from item_of n ds) (omega arith)
items_from-append item_of at (c ∷ cs) ds =
    ap (λ xs. item_of at c ∷ xs)
    (items_from-append item_of (at + length c) cs ds
    ∙ ap (λ n. items_from item_of (at + length c) cs ++ items_from item_of n ds) (omega (arith, length-append c (concat cs))))

module _ {How Item : Type 0} (asked : List ℕ → ℕ) (lengths : IsLength asked) (item_of : ℕ → List ℕ → Item) (how : How) (limit : ℕ)
    (reader : Reading How) (before now : Option (List ℕ)) (read : List Item)
    (so_far : ReadSoFar asked item_of how limit reader (given before now read)) where
  -- the reader stands after its items
  offset-is : reader.offset ≡ length (concat so_far.chunks)
  offset-is = ap (λ r. r.offset) so_far.place

  limit-is : reader.limit ≡ limit
  limit-is = ap (λ r. r.limit) so_far.place

  abbrev GivesOut : (reader' : Reading How) (now' : Option (List ℕ)) (item : Item) → Type 0
  GivesOut reader' now' item = Gives asked (cursor reader now) (cursor reader' now') item_of item

  -- the items with the one that is given out
  with_item : (reader' : Reading How) (now' : Option (List ℕ)) (item : Item) (gives : GivesOut reader' now' item)
      → read ++ item ∷ [] ≡ items_from item_of 0 (so_far.chunks ++ gives.chunk ∷ [])
  with_item reader' now' item gives =
      let at : ℕ = length (concat so_far.chunks) in
      ap (λ xs. xs ++ item ∷ []) so_far.same
      ∙ ap (λ i. items_from item_of 0 so_far.chunks ++ i ∷ []) (gives.item_is ∙ ap (λ n. item_of n gives.chunk) offset-is)
      ∙ ap (λ n. items_from item_of 0 so_far.chunks ++ items_from item_of n (gives.chunk ∷ [])) (sym (zero-add at))
      ∙ sym (items_from-append item_of 0 so_far.chunks (gives.chunk ∷ []))

  -- one more item
  step : (reader' : Reading How) (now' : Option (List ℕ)) (item : Item) → GivesOut reader' now' item
      → ReadSoFar asked item_of how limit reader' (given before now' (read ++ item ∷ []))
  step reader' now' item gives =
      let p = so_far in
      let chunk : List ℕ = gives.chunk in
      let whole : concat (p.chunks ++ chunk ∷ []) ≡ concat p.chunks ++ chunk = concat-push p.chunks chunk in
      let len : length (concat (p.chunks ++ chunk ∷ [])) ≡ length (concat p.chunks) + length chunk =
      ap length whole ∙ length-append (concat p.chunks) chunk in
      let L : List ℕ → Type 0 = λ xs. Loses before (ahead reader'.pending now') xs in
      let at : ℕ = length (concat p.chunks) in
      let goes_on : reader' ≡ record { how = how; pending = reader'.pending; offset = at + length chunk; limit = limit; end = None } =
      gives.goes_on
      ∙ ap (λ r. record { how = r.how; pending = reader'.pending; offset = r.offset + length chunk; limit = r.limit; end = r.end })
      p.place in
      let fits : at + length chunk ≤ limit = omega (arith, gives.within, offset-is, limit-is) in
      record {
        chunks = p.chunks ++ chunk ∷ [];
        same = with_item reader' now' item gives;
        place = goes_on ∙ ap (λ n. record { how = how; pending = reader'.pending; offset = n; limit = limit; end = None }) (sym len);
        within = omega (arith, len, fits);
        each = AllByRecursion-append (IsItem asked) p.chunks (chunk ∷ []) p.each (gives.is_item, tt);
        lost =
            subst L (sym whole) (runs_are_lost.both before (ahead reader.pending now) (ahead reader'.pending now') (concat p.chunks) chunk
            p.lost gives.lost);
      }

  -- the same items, if no byte is lost and the reader goes on
  goes_on : (reader' : Reading How) (now' : Option (List ℕ)) → ahead reader'.pending now' ≡ ahead reader.pending now
      → reader' ≡ record reader { pending = reader'.pending } → ReadSoFar asked item_of how limit reader' (given before now' read)
  goes_on reader' now' same place =
      let L : Option (List ℕ) → Type 0 = λ rest. Loses before rest (concat so_far.chunks) in
      record {
        chunks = so_far.chunks;
        same = so_far.same;
        place =
            place ∙ ap (λ r. record { how = r.how; pending = reader'.pending; offset = r.offset; limit = r.limit; end = r.end }) so_far.place;
        within = so_far.within;
        each = so_far.each;
        lost = subst L (sym same) so_far.lost;
      }

  -- after a failed read
  waits : (reader' : Reading How) (now' : Option (List ℕ)) → Waits asked (cursor reader now) (cursor reader' now')
      → ReadSoFar asked item_of how limit reader' (given before now' read)
  waits reader' now' kept = goes_on reader' now' kept.same kept.goes_on

  -- if an item was brought
  brought : (reader' : Reading How) (now' : Option (List ℕ)) → IsBrought asked (cursor reader now) (cursor reader' now')
      → ReadSoFar asked item_of how limit reader' (given before now' read)
  brought reader' now' kept = goes_on reader' now' kept.same kept.goes_on

  -- if the source tells what it has left, the bytes are the items so far and what is ahead
  abbrev IsTold : List ℕ → Type 0
  IsTold bytes = (left : List ℕ) × (now ≡ Some left) × (bytes ≡ concat so_far.chunks ++ (reader.pending ++ left))

  told : (bytes : List ℕ) → before ≡ Some bytes → IsTold bytes
  told bytes e = by_left now refl
    where
      by_left : (n : Option (List ℕ)) → now ≡ n → IsTold bytes
      by_left None f =
          let P : Option (List ℕ) → Type 0 = λ n. Loses before (ahead reader.pending n) (concat so_far.chunks) in
          let Q : Option (List ℕ) → Type 0 = λ b. Loses b None (concat so_far.chunks) in
          absurd (subst Q e (subst P f so_far.lost))
      by_left (Some left) f =
          let P : Option (List ℕ) → Type 0 = λ n. Loses before (ahead reader.pending n) (concat so_far.chunks) in
          let Q : Option (List ℕ) → Type 0 = λ b. Loses b (Some (reader.pending ++ left)) (concat so_far.chunks) in
          (left, f, subst Q e (subst P f so_far.lost))

  abbrev EndsHere : (reader' : Reading How) (now' : Option (List ℕ)) (tail : Tail) → Type 0
  EndsHere reader' now' tail = Finishes asked (cursor reader now) (cursor reader' now') tail

  -- the whole stream, if it ends here
  cut_here : (bytes rest : List ℕ) (tail : Tail) → bytes ≡ concat so_far.chunks ++ rest → Ends asked reader.limit reader.offset rest tail
      → IsCutInto asked item_of limit bytes read tail
  cut_here bytes rest tail whole ends =
      let P : Reading How → Type 0 = λ r. Ends asked r.limit r.offset rest tail in
      let E : ℕ → Type 0 = λ n. Ends asked limit n rest tail in
      record {
        chunks = so_far.chunks;
        cuts = record {
          rest = rest;
          whole = whole;
          each = so_far.each;
          ends = subst E (sym (zero-add (length (concat so_far.chunks)))) (subst P so_far.place ends);
        };
        same = so_far.same;
      }

  finished : (reader' : Reading How) (now' : Option (List ℕ)) (tail : Tail) (bytes : List ℕ) → before ≡ Some bytes
      → EndsHere reader' now' tail → IsCutInto asked item_of limit bytes read tail
  finished reader' now' tail bytes e finishes =
      let t = told bytes e in
      let P : Option (List ℕ) → Type 0 = λ n. IfSome (ahead reader.pending n) (λ xs. Ends asked reader.limit reader.offset xs tail) in
      cut_here bytes (reader.pending ++ t.0) tail t.2 (subst P t.1 finishes.ends)

  -- the items are all of the stream
  finishes : (reader' : Reading How) (now' : Option (List ℕ)) (tail : Tail) → EndsHere reader' now' tail
      → IfSome before (λ bytes. IsCutInto asked item_of limit bytes read tail)
  finishes reader' now' tail ends = by_told before refl
    where
      by_told : (b : Option (List ℕ)) → before ≡ b → IfSome b (λ bytes. IsCutInto asked item_of limit bytes read tail)
      by_told None e = tt
      by_told (Some bytes) e = finished reader' now' tail bytes e ends

  -- nothing is left at the end
  left_at_end : (reader' : Reading How) (now' : Option (List ℕ)) (bytes : List ℕ) → before ≡ Some bytes → EndsHere reader' now' End
      → now' ≡ Some []
  left_at_end reader' now' bytes e ends = by_left now' refl
    where
      by_left : (n : Option (List ℕ)) → now' ≡ n → now' ≡ Some []
      by_left None f =
          let t = told bytes e in
          let same : None ≡ Some (reader.pending ++ t.0) = sym (ap (ahead reader'.pending) f) ∙ ends.same ∙ ap (ahead reader.pending) t.1 in
          cc
      by_left (Some left) f =
          let t = told bytes e in
          let P : Option (List ℕ) → Type 0 = λ n. IfSome (ahead reader.pending n) (λ xs. Ends asked reader.limit reader.offset xs End) in
          let none : reader.pending ++ t.0 ≡ [] = (subst P t.1 ends.ends).0 in
          let same : Some (reader'.pending ++ left) ≡ Some (reader.pending ++ t.0) =
          sym (ap (ahead reader'.pending) f) ∙ ends.same ∙ ap (ahead reader.pending) t.1 in
          let parts : reader'.pending ++ left ≡ reader.pending ++ t.0 = cc in
          let empty : left ≡ [] = nil_from_length left (omega (arith, length-append reader'.pending left, ap length (parts ∙ none))) in
          f ∙ ap Some empty

  nothing_left : (reader' : Reading How) (now' : Option (List ℕ)) → EndsHere reader' now' End → IfSome before (λ bytes. now' ≡ Some [])
  nothing_left reader' now' ends = by_told before refl
    where
      by_told : (b : Option (List ℕ)) → before ≡ b → IfSome b (λ bytes. now' ≡ Some [])
      by_told None e = tt
      by_told (Some bytes) e = left_at_end reader' now' bytes e ends

  -- what follows an item that is given out
  behind : (reader' : Reading How) (now' : Option (List ℕ)) (item : Item) (left : List ℕ) → now ≡ Some left
      → (gives : GivesOut reader' now' item) → (more : List ℕ) × (reader.pending ++ left ≡ gives.chunk ++ more)
  behind reader' now' item left e gives = by_left (ahead reader'.pending now') refl
    where
      by_left : (n : Option (List ℕ)) → ahead reader'.pending now' ≡ n → (more : List ℕ) × (reader.pending ++ left ≡ gives.chunk ++ more)
      by_left None f =
          let P : Option (List ℕ) → Type 0 = λ n. Loses (ahead reader.pending now) n gives.chunk in
          let Q : Option (List ℕ) → Type 0 = λ n. Loses (ahead reader.pending n) None gives.chunk in
          absurd (subst Q e (subst P f gives.lost))
      by_left (Some more) f =
          let P : Option (List ℕ) → Type 0 = λ n. Loses (ahead reader.pending now) n gives.chunk in
          let Q : Option (List ℕ) → Type 0 = λ n. Loses (ahead reader.pending n) (Some more) gives.chunk in
          (more, subst Q e (subst P f gives.lost))

  stands_here : (reader' : Reading How) (now' : Option (List ℕ)) (item : Item) (bytes : List ℕ) → before ≡ Some bytes
      → GivesOut reader' now' item → StandsBehind asked item_of limit bytes read item
  unfolding step
  stands_here reader' now' item bytes e gives =
      let t = told bytes e in
      let b = behind reader' now' item t.0 t.1 gives in
      let s = step reader' now' item gives in
      let cut = some_cutting asked lengths limit (length b.0) (0 + length (concat s.chunks)) b.0 (omega arith) (omega (arith, s.within)) in
      let parts : bytes ≡ concat s.chunks ++ b.0 =
      t.2
      ∙ ap (λ xs. concat so_far.chunks ++ xs) b.1
      ∙ sym (append_assoc (concat so_far.chunks) gives.chunk b.0)
      ∙ ap (λ xs. xs ++ b.0) (sym (concat-push so_far.chunks gives.chunk)) in
      let after : List Item = items_from item_of (0 + length (concat s.chunks)) cut.0 in
      record {
        after = after;
        tail = cut.1;
        cut = record {
          chunks = s.chunks ++ cut.0;
          cuts = cuts_behind asked lengths limit 0 bytes s.chunks cut.0 b.0 cut.1 parts s.each cut.2;
          same =
              sym (append_assoc read (item ∷ []) after) ∙ ap (λ xs. xs ++ after) s.same ∙ sym (items_from-append item_of 0 s.chunks cut.0);
        };
      }

  -- after the items so far comes the one that is given out
  stands_behind : (reader' : Reading How) (now' : Option (List ℕ)) (item : Item) → GivesOut reader' now' item
      → IfSome before (λ bytes. StandsBehind asked item_of limit bytes read item)
  stands_behind reader' now' item gives = by_told before refl
    where
      by_told : (b : Option (List ℕ)) → before ≡ b → IfSome b (λ bytes. StandsBehind asked item_of limit bytes read item)
      by_told None e = tt
      by_told (Some bytes) e = stands_here reader' now' item bytes e gives

-- however a reader cuts, it goes on as it began
module _ {How Item : Type 0} (asked : How → List ℕ → ℕ) (lengths : (how : How) → IsLength (asked how)) (item_of : How → ℕ → List ℕ → Item)
  where
    how-is : (how : How) (limit : ℕ) (reader : Reading How) (before now : Option (List ℕ)) (read : List Item)
        → ReadSoFar (asked how) (item_of how) how limit reader (given before now read) → reader.how ≡ how
    how-is how limit reader before now read so_far = ap (λ r. r.how) so_far.place

    pub in_order : ItemsAreReadInOrder asked item_of
    in_order =
        record {
          step = λ how limit reader before now read so_far reader' now' item gives.
              let G : How → Type 0 = λ h. Gives (asked h) (cursor reader now) (cursor reader' now') (item_of h) item in
              step (asked how) (lengths how) (item_of how) how limit reader before now read so_far reader' now' item
              (subst G (how-is how limit reader before now read so_far) gives);
          waits = λ how limit reader before now read so_far reader' now' kept.
              let W : How → Type 0 = λ h. Waits (asked h) (cursor reader now) (cursor reader' now') in
              waits (asked how) (lengths how) (item_of how) how limit reader before now read so_far reader' now'
              (subst W (how-is how limit reader before now read so_far) kept);
          brought = λ how limit reader before now read so_far reader' now' kept.
              let B : How → Type 0 = λ h. IsBrought (asked h) (cursor reader now) (cursor reader' now') in
              brought (asked how) (lengths how) (item_of how) how limit reader before now read so_far reader' now'
              (subst B (how-is how limit reader before now read so_far) kept);
          stands_behind = λ how limit reader before now read so_far reader' now' item gives.
              let G : How → Type 0 = λ h. Gives (asked h) (cursor reader now) (cursor reader' now') (item_of h) item in
              stands_behind (asked how) (lengths how) (item_of how) how limit reader before now read so_far reader' now' item
              (subst G (how-is how limit reader before now read so_far) gives);
          finishes = λ how limit reader before now read so_far reader' now' tail ends.
              let F : How → Type 0 = λ h. Finishes (asked h) (cursor reader now) (cursor reader' now') tail in
              finishes (asked how) (lengths how) (item_of how) how limit reader before now read so_far reader' now' tail
              (subst F (how-is how limit reader before now read so_far) ends);
          nothing_left = λ how limit reader before now read so_far reader' now' ends.
              let F : How → Type 0 = λ h. Finishes (asked h) (cursor reader now) (cursor reader' now') End in
              nothing_left (asked how) (lengths how) (item_of how) how limit reader before now read so_far reader' now'
              (subst F (how-is how limit reader before now read so_far) ends);
        }
