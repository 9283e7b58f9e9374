-- Bytes that are taken at once are given out one by one, and the work on each is done.
use Rattle.std.proofs.Common.{◌≡◌, ◌+◌, ◌-◌, ◌<◌, ◌≤◌, ℕ, zero, suc, List, [], ◌∷◌, ◌++◌, length, slice_index, take, drop, Option, None, Some, refl, ap, sym, ◌∙◌, subst, arith, inl, inr}
use Rattle.std.specs.Prelude.{◌⊎◌, Ok, reverse}
use Rattle.std.proofs.lemmas.List.{drop-drop, drop-take, append-nil, length-drop, length-take-le, take-append-drop, take_all}
use Rattle.std.proofs.Math.Nat.{min-le_left, min-le_right}
use Rattle.item_reader.specs.ByteReader.{one_byte}
use Rattle.item_reader.specs.Reading.{Gives, Reading, allowed_by, allowed_bytes, cursor, held_bytes, passed}
use Rattle.item_reader.specs.SoFar.{given}
use Rattle.item_reader.specs.declared.byte_reader.EachByte.{EachByte}
use Rattle.item_reader.specs.declared.cutting.Tail.{Tail}
use Rattle.item_reader.specs.ByteReader.{each_byte}
use Rattle.outside.specs.Outside.{Loses, ahead}
use Rattle.pass_loop.specs.Bytes.{GivenSoFar, byte_cutting, placed_at}
use Rattle.pass_loop.specs.ForProofs.HeldLaws.{TakesHeld, with_places}
use Rattle.pass_loop.specs.ForProofs.PassLaws.{SoFar, ends_at_step, one_more, reverse-push}
use Rattle.pass_loop.specs.ItemLaws.{ItemsAreTakenInOrder}
use Rattle.pass_loop.specs.Pass.{AreAccepted, ArePut, Seen, Stands, StepEnds, Steps, Work}
use Rattle.pass_loop.specs.Places.{Places}
use Rattle.pass_loop.specs.Put.{Put}
use Rattle.pass_loop.specs.Runs.{EndsWithin, StepsOver, next_item}
use Rattle.pass_loop.specs.declared.ends.RunEnd.{RunEnd}
use Rattle.pass_loop.proofs.ByteLaws.{at_end}
use Rattle.pass_loop.specs.ForProofs.HeldItems.{held-length}

-- the first of some bytes ends the pass
pub ends_at_first : {Engine : Type 0} (work : Work (ℕ × ℕ)) (Holds : Engine → List (ℕ × ℕ) → Type 0) (past : List (ℕ × ℕ))
    (bytes : List ℕ) (at : ℕ) (old now new : Places) (end : RunEnd) → 0 < length bytes → now ≡ old → at ≡ length past
    → StepEnds work past now new (at, slice_index bytes 0) end → EndsWithin work Holds past bytes old new end
ends_at_first work Holds past [] at old now new end some same place ends = absurd (omega (arith, some))
ends_at_first work Holds past (byte ∷ bytes) at old now new end some same place ends =
    let A : ℕ → Type 0 = λ n. StepEnds work past now new (n, byte) end in
    let O : Places → Type 0 = λ places. StepEnds work past places new (length past, byte) end in
    inl (subst O same (subst A place ends))

-- all of what comes after some bytes
pub all_behind : (at : ℕ) (bytes : List ℕ) → take (length bytes - at) (drop at bytes) ≡ drop at bytes
all_behind at bytes = let len = length-drop at bytes in take_all (length bytes - at) (drop at bytes) (omega (arith, len))

-- ---- a byte that is held is given out

-- the bytes that are allowed begin as all do
front : (n : ℕ) (bytes : List ℕ) (byte : ℕ) (rest : List ℕ) → take n bytes ≡ byte ∷ rest → bytes ≡ byte ∷ drop 1 bytes
front n bytes byte rest same =
    let whole : bytes ≡ byte ∷ (rest ++ drop n bytes) = sym (take-append-drop n bytes) ∙ ap (λ xs. xs ++ drop n bytes) same in
    whole ∙ ap (λ xs. byte ∷ xs) (sym (ap (drop 1) whole))

losing : (pending now : List ℕ) (left : Option (List ℕ)) (byte : ℕ) → pending ≡ byte ∷ now
    → Loses (ahead pending left) (ahead now left) (byte ∷ [])
losing pending now None byte same = tt
losing pending now (Some left) byte same = ap (λ xs. xs ++ left) same

allowed-fits : (end : Option Tail) (held room : ℕ) → (allowed_by end held room ≤ held) × (allowed_by end held room ≤ room)
allowed-fits None held room = (min-le_left held room, min-le_right held room)
allowed-fits (Some tail) held room = (omega arith, omega arith)

gives : (reader : Reading EachByte) (place byte : ℕ) (rest : List ℕ) (left : Option (List ℕ))
    → drop place (held_bytes reader) ≡ byte ∷ rest
    → Gives one_byte (cursor (passed place reader) left) (cursor (passed (place + 1) reader) left) placed_at (reader.offset + place, byte)
gives reader place byte rest left same =
    let allowed : ℕ = allowed_bytes reader in
    let fits = allowed-fits reader.end (length reader.pending) (reader.limit - reader.offset) in
    let some : length (held_bytes reader) - place ≡ length (byte ∷ rest) = sym (length-drop place (held_bytes reader)) ∙ ap length same in
    let below : place < allowed = omega (arith, some, held-length reader) in
    let sum : allowed ≡ place + (allowed - place) = omega (arith, below) in
    let cut : drop place (take allowed reader.pending) ≡ take (allowed - place) (drop place reader.pending) =
    ap (λ n. drop place (take n reader.pending)) sum ∙ drop-take place (allowed - place) reader.pending in
    let first : drop place reader.pending ≡ byte ∷ drop 1 (drop place reader.pending) =
    front (allowed - place) (drop place reader.pending) byte rest (sym cut ∙ same) in
    let next : drop 1 (drop place reader.pending) ≡ drop (place + 1) reader.pending = drop-drop 1 place reader.pending in
    let R : ℕ → Reading EachByte = λ n. record reader { pending = drop (place + 1) reader.pending; offset = n } in
    let sums : reader.offset + (place + 1) ≡ reader.offset + place + 1 = omega arith in
    record {
      chunk = byte ∷ [];
      is_item = refl;
      lost = losing (drop place reader.pending) (drop (place + 1) reader.pending) left byte (first ∙ ap (λ xs. byte ∷ xs) next);
      item_is = refl;
      within = omega (arith, below, fits.1);
      goes_on = ap R sums;
    }

-- ---- a run

module _ {Engine : Type 0} (work : Work (ℕ × ℕ)) (Holds : Engine → List (ℕ × ℕ) → Type 0)
    (means : (engine : Engine) (past : List (ℕ × ℕ)) (puts : List Put) → Holds engine past → AreAccepted work past → ArePut work past puts
    → work.Means past puts)
    (laws : ItemsAreTakenInOrder {How = EachByte} (λ how. one_byte) (λ how. placed_at))
    (reader : Reading EachByte) (old : Seen) (left : Option (List ℕ)) where
  -- the reader has given these, after so many of the bytes that it holds
  abbrev pub HasGivenAt : ℕ → List (ℕ × ℕ) → Type 0
  HasGivenAt place items = GivenSoFar (passed place reader) (given old.left left items)

  -- an engine holds what these leave
  abbrev pub IsHeldBySome : List (ℕ × ℕ) → Type 0
  IsHeldBySome past = (engine : Engine) × Holds engine past

  any_means : (past : List (ℕ × ℕ)) (puts : List Put) → IsHeldBySome past → AreAccepted work past → ArePut work past puts
      → work.Means past puts
  any_means past puts holds accepted put = means holds.0 past puts holds.1 accepted put

  -- one byte more is given, as the item of the byte after these
  next_given : (place byte : ℕ) (rest : List ℕ) (items : List (ℕ × ℕ)) → drop place (held_bytes reader) ≡ byte ∷ rest
      → HasGivenAt place items
      → Gives one_byte (cursor (passed place reader) left) (cursor (passed (place + 1) reader) left) placed_at
      (next_item (reverse items) byte)
  next_given place byte rest items same has =
      let one = gives reader place byte rest left same in
      let at : reader.offset + place ≡ length (reverse items) = at_end (passed place reader) old.left left items has in
      let G : ℕ → Type 0 =
      λ n. Gives one_byte (cursor (passed place reader) left) (cursor (passed (place + 1) reader) left) placed_at (n, byte) in
      subst G at one

  -- after the byte at a place the others stand at the next one
  behind : (place byte : ℕ) (bytes rest : List ℕ) → drop place (held_bytes reader) ≡ byte ∷ bytes ++ rest
      → drop (place + 1) (held_bytes reader) ≡ bytes ++ rest
  behind place byte bytes rest same = sym (drop-drop 1 place (held_bytes reader)) ∙ ap (drop 1) same

  -- one byte more is accepted
  one_taken : (place byte : ℕ) (rest : List ℕ) (now : Seen) (between : Places) (engine : Engine)
      (so_far : SoFar work (HasGivenAt place) IsHeldBySome old now) → drop place (held_bytes reader) ≡ byte ∷ rest
      → Steps work (reverse so_far.items) now.places between (next_item (reverse so_far.items) byte) (Ok tt)
      → Holds engine (next_item (reverse so_far.items) byte ∷ reverse so_far.items)
      → (more : SoFar work (HasGivenAt (place + 1)) IsHeldBySome old (with_places now between))
      × (reverse more.items ≡ next_item (reverse so_far.items) byte ∷ reverse so_far.items)
  one_taken place byte rest now between engine so_far same steps holds =
      let item = next_item (reverse so_far.items) byte in
      let has =
      laws.given_more each_byte (passed place reader) old.left left so_far.items so_far.has (passed (place + 1) reader) left item
      (next_given place byte rest so_far.items same so_far.has) in (
        one_more byte_cutting work (HasGivenAt place) IsHeldBySome old now so_far any_means (HasGivenAt (place + 1)) IsHeldBySome item
            (with_places now between) has refl steps (engine, holds),
        reverse-push so_far.items item,
      )

  -- the bytes of a run are given, and the work on them is done
  pub run_taken : (after : Engine) (bytes rest : List ℕ) (place : ℕ) (now new : Seen)
      (so_far : SoFar work (HasGivenAt place) IsHeldBySome old now) → drop place (held_bytes reader) ≡ bytes ++ rest
      → new.reads ≡ now.reads → StepsOver work Holds after (reverse so_far.items) bytes now.places new.places
      → SoFar work (HasGivenAt (place + length bytes)) (λ past. Holds after past) old new
  run_taken after [] rest place now new so_far same reads steps =
      let P : ℕ → Type 0 = λ n. HasGivenAt n so_far.items in
      let none : place ≡ place + 0 = omega arith in
      record {
        items = so_far.items;
        has = subst P none so_far.has;
        holds = steps.0;
        puts = so_far.puts;
        accepted = so_far.accepted;
        put = so_far.put;
        places = steps.1 ∙ so_far.places;
        reads = reads ∙ so_far.reads;
      }
  run_taken after (byte ∷ bytes) rest place now new so_far same reads steps =
      let one = one_taken place byte (bytes ++ rest) now steps.0 steps.1 so_far same steps.2 steps.3 in
      let S : List (ℕ × ℕ) → Type 0 = λ past. StepsOver work Holds after past bytes steps.0 new.places in
      let more =
      run_taken after bytes rest (place + 1) (with_places now steps.0) new one.0 (behind place byte bytes rest same) reads
      (subst S (sym one.1) steps.4) in
      let sum : place + 1 + length bytes ≡ place + length (byte ∷ bytes) = omega arith in
      let P : ℕ → Type 0 = λ n. SoFar work (HasGivenAt n) (λ past. Holds after past) old new in
      subst P sum more

  -- one of the bytes of a run ends the pass
  pub run_ends : (end : RunEnd) (bytes rest : List ℕ) (place : ℕ) (now new : Seen)
      (so_far : SoFar work (HasGivenAt place) IsHeldBySome old now) → drop place (held_bytes reader) ≡ bytes ++ rest
      → new.reads ≡ now.reads → EndsWithin work Holds (reverse so_far.items) bytes now.places new.places end
      → Stands byte_cutting work old new end
  run_ends end [] rest place now new so_far same reads ends = absurd ends
  run_ends end (byte ∷ bytes) rest place now new so_far same reads (inl ends) =
      let item = next_item (reverse so_far.items) byte in
      let front =
      laws.front_more each_byte (passed place reader) old.left left so_far.items so_far.has (passed (place + 1) reader) left item
      (next_given place byte (bytes ++ rest) so_far.items same so_far.has) in
      ends_at_step byte_cutting work (HasGivenAt place) IsHeldBySome old now so_far any_means item end new front reads ends
  run_ends end (byte ∷ bytes) rest place now new so_far same reads (inr steps) =
      let one = one_taken place byte (bytes ++ rest) now steps.0 steps.1 so_far same steps.2 steps.3 in
      let S : List (ℕ × ℕ) → Type 0 = λ past. EndsWithin work Holds past bytes steps.0 new.places end in
      run_ends end bytes rest (place + 1) (with_places now steps.0) new one.0 (behind place byte bytes rest same) reads
      (subst S (sym one.1) steps.4)

  by_some : (engine : Engine) (place : ℕ) (now : Seen) → SoFar work (HasGivenAt place) (λ past. Holds engine past) old now
      → SoFar work (HasGivenAt place) IsHeldBySome old now
  by_some engine place now so_far =
      record {
        items = so_far.items;
        has = so_far.has;
        holds = (engine, so_far.holds);
        puts = so_far.puts;
        accepted = so_far.accepted;
        put = so_far.put;
        places = so_far.places;
        reads = so_far.reads;
      }

  -- the first of the bytes after a place are taken
  pub goes_on : (engine after : Engine) (place count : ℕ) (now new : Seen)
      (so_far : SoFar work (HasGivenAt place) (λ past. Holds engine past) old now) → count ≤ length (drop place (held_bytes reader))
      → new.reads ≡ now.reads
      → StepsOver work Holds after (reverse so_far.items) (take count (drop place (held_bytes reader))) now.places new.places
      → SoFar work (HasGivenAt (place + count)) (λ past. Holds after past) old new
  unfolding by_some
  goes_on engine after place count now new so_far some reads steps =
      let bytes : List ℕ = drop place (held_bytes reader) in
      let P : ℕ → Type 0 = λ n. SoFar work (HasGivenAt (place + n)) (λ past. Holds after past) old new in
      subst P (length-take-le count bytes some)
      (run_taken after (take count bytes) (drop count bytes) place now new (by_some engine place now so_far)
      (sym (take-append-drop count bytes)) reads steps)

  -- one of the bytes after a place ends the pass
  pub ends_in : (engine : Engine) (end : RunEnd) (place : ℕ) (now new : Seen)
      (so_far : SoFar work (HasGivenAt place) (λ past. Holds engine past) old now) → new.reads ≡ now.reads
      → EndsWithin work Holds (reverse so_far.items) (drop place (held_bytes reader)) now.places new.places end
      → Stands byte_cutting work old new end
  unfolding by_some
  ends_in engine end place now new so_far reads ends =
      let bytes : List ℕ = drop place (held_bytes reader) in
      run_ends end bytes [] place now new (by_some engine place now so_far) (sym (append-nil bytes)) reads ends

-- the bytes that are held are within the limit
pub nearer : (reader : Reading EachByte) (count : ℕ) → count ≡ length (held_bytes reader) → 0 < length (held_bytes reader)
    → reader.limit - (reader.offset + count) < reader.limit - reader.offset
nearer reader count all some =
    let fits = allowed-fits reader.end (length reader.pending) (reader.limit - reader.offset) in
    omega (arith, all, some, held-length reader, fits.1)

-- all bytes that are held are taken
pub all_taken : (reader : Reading EachByte) (count : ℕ) → count ≡ length (held_bytes reader)
    → TakesHeld (λ r. r.limit - r.offset) passed (λ place r. place < length (held_bytes r)) (length (held_bytes reader)) reader (Ok count)
all_taken reader count all = (omega (arith, all), by_count (length (held_bytes reader)) refl)
  where
    by_count : (n : ℕ) → length (held_bytes reader) ≡ n
        → ((count ≡ 0) × (0 < length (held_bytes reader) → ⊥))
        ⊎ (reader.limit - (reader.offset + count) < reader.limit - reader.offset)
    by_count zero none = inl (omega (arith, all, none), λ some. omega (arith, none, some))
    by_count (suc n) some = inr (nearer reader count all (omega (arith, some)))
