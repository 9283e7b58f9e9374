-- What `next` answers, from what is at the front of the window.
use Rattle.std.proofs.Common.{◌≡◌, ◌+◌, ◌-◌, ◌<◌, ◌≤◌, ℕ, List, ◌++◌, length, min, take, drop}
use Rattle.std.proofs.Common.{Option, None, Some, refl, ap, sym, ◌∙◌, arith, subst}
use Rattle.std.proofs.lemmas.List.{append_assoc, drop-drop, drop-take, length-drop, length-take-le, take-append-drop, take-take, take_all}
use Rattle.std.proofs.Math.Nat.{min-le_left, min-le_right}
use Rattle.item_reader.specs.Cut.{IsItem, IsLength}
use Rattle.item_reader.specs.ForProofs.Front.{Sees}
use Rattle.outside.specs.Outside.{Loses, ahead}
use Rattle.item_reader.specs.Reading.{BeginsItemAt, Brings, Cursor, Gives, IsBrought, Keeps, Reading, allowed_by, allowed_bytes, cursor, held_bytes, more_of, passed}
use Rattle.item_reader.specs.declared.cutting.Tail.{Tail}
use Rattle.item_reader.specs.declared.cutting.Tail.TheVariants.{End, Truncated, TooLong}
use Rattle.item_reader.specs.declared.reader.Front.TheVariants.{Item as FrontItem, TooLong as FrontTooLong}
use Rattle.std.specs.Prelude.{Bool, true, IfSome, Ok}
use Rattle.item_reader.proofs.CutLaws.{few-front, item_taken}

ahead-lost : (chunk rest window : List ℕ) (left before : Option (List ℕ)) → ahead window left ≡ before → window ≡ chunk ++ rest
    → Loses before (ahead rest left) chunk
ahead-lost chunk rest window None before same parts = let P : Option (List ℕ) → Type 0 = λ b. Loses b None chunk in subst P same tt
ahead-lost chunk rest window (Some left) before same parts =
    let P : Option (List ℕ) → Type 0 = λ b. Loses b (Some (rest ++ left)) chunk in
    subst P same (ap (λ xs. xs ++ left) parts ∙ append_assoc chunk rest left)

-- what is seen if no item of the front is in the room
pub sees_too_long : (asked : List ℕ → ℕ) → IsLength asked → (bytes : List ℕ) (room : ℕ) → room < length bytes → room < asked bytes
    → Sees asked bytes room FrontTooLong
sees_too_long asked lengths bytes room long few = (long, few-front asked lengths room bytes (omega arith) few)

-- an item that is seen is one
pub item_seen : (asked : List ℕ → ℕ) → IsLength asked → (window : List ℕ) (room size : ℕ) → Sees asked window room (FrontItem size)
    → IsItem asked (take size window)
item_seen asked lengths window room size sees =
    let P : ℕ → Type 0 = λ n. IsItem asked (take n window) in
    subst P (sym sees.0) (item_taken asked lengths window (omega (arith, sees.0, sees.1)))

-- the bytes that may be given out are held, and within the room
allowed-fits : (end : Option Tail) (held room : ℕ) → (allowed_by end held room ≤ held) × (allowed_by end held room ≤ room)
allowed-fits None held room = (min-le_left held room, min-le_right held room)
allowed-fits (Some tail) held room = (omega arith, omega arith)

pub allowed-held : (end : Option Tail) (held room allowed : ℕ) → allowed ≡ allowed_by end held room → allowed ≤ held
allowed-held end held room allowed is_allowed = omega (arith, is_allowed, (allowed-fits end held room).0)

-- what is asked for by bytes in which an item is whole is asked for by all
asked-whole : (asked : List ℕ → ℕ) → IsLength asked → (window : List ℕ) (allowed : ℕ) → allowed ≤ length window
    → asked (take allowed window) ≤ allowed → asked (take allowed window) ≡ asked window
asked-whole asked lengths window allowed fits whole =
    let len : length (take allowed window) ≡ allowed = length-take-le allowed window fits in
    let enough : lengths.head ≤ length (take allowed window) = omega (arith, lengths.least (take allowed window), len, whole) in
    sym (lengths.told (take allowed window) (drop allowed window) enough) ∙ ap asked (take-append-drop allowed window)

going-on : (end : Option Tail) (held room : ℕ) → 0 < allowed_by end held room → end ≡ None
going-on None held room some = refl
going-on (Some tail) held room some = absurd (omega (arith, some))

-- An item that is whole in the bytes that may be given out is seen, and the items go on: once they have ended there are no such
-- bytes.
pub allowed_item : (asked : List ℕ → ℕ) → IsLength asked → (window : List ℕ) (end : Option Tail) (room allowed size : ℕ)
    → allowed ≡ allowed_by end (length window) room → size ≡ asked (take allowed window) → size ≤ allowed
    → (end ≡ None) × Sees asked window room (FrontItem size)
allowed_item asked lengths window end room allowed size is_allowed is_size whole =
    let fits = allowed-fits end (length window) room in
    let same : size ≡ asked window =
    is_size
    ∙ asked-whole asked lengths window allowed (omega (arith, is_allowed, fits.0)) (omega (arith, is_size, whole)) in
    let some : 0 < allowed_by end (length window) room = omega (arith, is_allowed, whole, same, lengths.some, lengths.least window) in
    let seen : Sees asked window room (FrontItem size) =
    (same, omega (arith, is_allowed, fits.0, whole), omega (arith, is_allowed, fits.1, whole)) in
    (going-on end (length window) room some, seen)

-- the same of a reader, which is this one now
pub seen_item : {How : Type 0} (asked : How → List ℕ → ℕ) (reader now : Reading How) → IsLength (asked reader.how) → reader ≡ now
    → (allowed size : ℕ) → allowed ≡ allowed_bytes reader → size ≡ asked reader.how (take allowed reader.pending) → size ≤ allowed
    → (now.end ≡ None) × Sees (asked now.how) now.pending (now.limit - now.offset) (FrontItem size)
seen_item {How} asked reader now lengths is_now allowed size is_allowed is_size whole =
    let P : Reading How → Type 0 =
    λ r. (r.end ≡ None) × Sees (asked r.how) r.pending (r.limit - r.offset) (FrontItem size) in
    subst P is_now
    (allowed_item (asked reader.how) lengths reader.pending reader.end (reader.limit - reader.offset) allowed size is_allowed is_size whole)

module _ {How : Type 0} (asked : How → List ℕ → ℕ) (how : How) (at limit : ℕ) (end : Option Tail) (pending window : List ℕ)
    (left now : Option (List ℕ)) (same : ahead window now ≡ ahead pending left) where
  module _ {Item : Type 0} (lengths : IsLength (asked how)) (item_of : How → ℕ → List ℕ → Item) where
    gives_item : (size : ℕ) → Sees (asked how) window (limit - at) (FrontItem size) → at ≤ limit
        → Gives (asked how) (cursor (record { how = how; pending = pending; offset = at; limit = limit; end = end }) left)
        (cursor (record { how = how; pending = drop size window; offset = at + size; limit = limit; end = end }) now) (item_of how)
        (item_of how at (take size window))
    gives_item size sees within =
        let len : length (take size window) ≡ size = length-take-le size window sees.1 in
        record {
          chunk = take size window;
          is_item = item_seen (asked how) lengths window (limit - at) size sees;
          lost = ahead-lost (take size window) (drop size window) window now (ahead pending left) same (sym (take-append-drop size window));
          item_is = refl;
          within = omega (arith, len, sees.2);
          goes_on = ap (λ n. record { how = how; pending = drop size window; offset = at + n; limit = limit; end = end }) (sym len);
        }

    -- the same, of a reader that is this one, and gives this item out
    pub gives_out : (size : ℕ) (old new : Reading How) (item : Item) → Sees (asked how) window (limit - at) (FrontItem size) → at ≤ limit
        → record { how = how; pending = pending; offset = at; limit = limit; end = end } ≡ old
        → new ≡ record { how = how; pending = drop size window; offset = at + size; limit = limit; end = end }
        → item ≡ item_of how at (take size window)
        → Gives (asked old.how) (cursor old left) (cursor new now) (item_of old.how) item
    gives_out size old new item sees within is_old is_new is_item =
        let given = gives_item size sees within in
        let after : Reading How = record { how = how; pending = drop size window; offset = at + size; limit = limit; end = end } in
        let P : Reading How → Type 0 =
        λ r. Gives (asked r.how) (cursor r left) (cursor after now) (item_of r.how) (item_of how at (take size window)) in
        let Q : Reading How → Type 0 =
        λ r. Gives (asked old.how) (cursor old left) (cursor r now) (item_of old.how) (item_of how at (take size window)) in
        let R : Item → Type 0 = λ i. Gives (asked old.how) (cursor old left) (cursor new now) (item_of old.how) i in
        subst R (sym is_item) (subst Q (sym is_new) (subst P is_old given))

-- all of what comes after some bytes
pub all_behind : (at : ℕ) (bytes : List ℕ) → take (length bytes - at) (drop at bytes) ≡ drop at bytes
all_behind at bytes =
    let len : length (drop at bytes) ≡ length bytes - at = length-drop at bytes in
    take_all (length bytes - at) (drop at bytes) (omega (arith, len))

-- what is allowed after some bytes that are
rest_allowed : (end : Option Tail) (held room at : ℕ) → at ≤ allowed_by end held room
    → allowed_by end held room - at ≡ allowed_by end (held - at) (room - at)
rest_allowed None held room at fits = omega (arith, fits)
rest_allowed (Some tail) held room at fits = omega (arith, fits)

-- as many bytes are held as are allowed
pub length-held : {How : Type 0} (reader : Reading How) → length (held_bytes reader) ≡ allowed_bytes reader
length-held reader =
    length-take-le (allowed_bytes reader) reader.pending (allowed-fits reader.end (length reader.pending) (reader.limit - reader.offset)).0

-- the bytes that are held are within the limit
pub held-within : {How : Type 0} (reader : Reading How) → reader.offset ≤ reader.limit
    → reader.offset + length (held_bytes reader) ≤ reader.limit
held-within reader within =
    omega (arith, within, length-held reader, (allowed-fits reader.end (length reader.pending) (reader.limit - reader.offset)).1)

-- what is whole in the allowed bytes after some of them is an item that is held there
module _ {How Item : Type 0} (asked : How → List ℕ → ℕ) (item_of : How → ℕ → List ℕ → Item) (reader : Reading How)
    (lengths : IsLength (asked reader.how)) (within : reader.offset ≤ reader.limit) where
  pub held_at : (at : ℕ) → at ≤ allowed_bytes reader
      → BeginsItemAt (asked reader.how) (item_of reader.how) at reader (drop at (held_bytes reader))
  held_at at fits size is_size whole =
      let allowed : ℕ = allowed_bytes reader in
      let window : List ℕ = drop at reader.pending in
      let bounds = allowed-fits reader.end (length reader.pending) (reader.limit - reader.offset) in
      let sum : allowed ≡ at + (allowed - at) = omega (arith, fits) in
      let same : drop at (take allowed reader.pending) ≡ take (allowed - at) window =
      ap (λ n. drop at (take n reader.pending)) sum ∙ drop-take at (allowed - at) reader.pending in
      let rest : length (drop at (held_bytes reader)) ≡ length (held_bytes reader) - at = length-drop at (held_bytes reader) in
      let some : size ≤ allowed - at = omega (arith, whole, rest, length-held reader) in
      let len : length window ≡ length reader.pending - at = length-drop at reader.pending in
      let room : reader.limit - reader.offset - at ≡ reader.limit - (reader.offset + at) = omega arith in
      let P : ℕ → Type 0 = λ n. allowed - at ≡ allowed_by reader.end n (reader.limit - reader.offset - at) in
      let is_allowed : allowed - at ≡ allowed_by reader.end (length window) (reader.limit - reader.offset - at) =
      subst P (sym len) (rest_allowed reader.end (length reader.pending) (reader.limit - reader.offset) at fits) in
      let seen =
      allowed_item (asked reader.how) lengths window reader.end (reader.limit - reader.offset - at) (allowed - at) size is_allowed
      (is_size ∙ ap (asked reader.how) same) some in
      let S : ℕ → Type 0 = λ n. Sees (asked reader.how) window n (FrontItem size) in
      let is_item : item_of reader.how (reader.offset + at) (take size (drop at (held_bytes reader)))
      ≡ item_of reader.how (reader.offset + at) (take size window) =
      ap (item_of reader.how (reader.offset + at)) (ap (take size) same ∙ take-take size (allowed - at) window some) in
      let after : passed (at + size) reader
      ≡ record { how = reader.how; pending = drop size window; offset = reader.offset + at + size; limit = reader.limit; end = reader.end } =
      ap (λ (bytes : List ℕ). record { how = reader.how; pending = bytes; offset = reader.offset + (at + size); limit = reader.limit; end = reader.end })
      (sym (drop-drop size at reader.pending))
      ∙ ap (λ (n : ℕ). record { how = reader.how; pending = drop size window; offset = n; limit = reader.limit; end = reader.end })
      (omega arith) in
      record {
        further = omega (arith, is_size, lengths.some, lengths.least (drop at (held_bytes reader)));
        fits = omega (arith, fits, some);
        gives = λ left.
            gives_out asked reader.how (reader.offset + at) reader.limit reader.end window window left left refl lengths item_of size
            (passed at reader) (passed (at + size) reader) _ (subst S room seen.1) (omega (arith, bounds.1, fits, within)) refl after is_item;
      }

-- an item that is seen is whole in the bytes that may be given out
pub held_whole : (asked : List ℕ → ℕ) → IsLength asked → (bytes : List ℕ) (end : Option Tail) (room size : ℕ) → end ≡ None
    → Sees asked bytes room (FrontItem size)
    → asked (take (allowed_by end (length bytes) room) bytes) ≤ length (take (allowed_by end (length bytes) room) bytes)
held_whole asked lengths bytes end room size going sees =
    let allowed : ℕ = allowed_by end (length bytes) room in
    let is_allowed : allowed ≡ min (length bytes) room = ap (λ e. allowed_by e (length bytes) room) going in
    let len : length (take allowed bytes) ≡ allowed = length-take-le allowed bytes (allowed-fits end (length bytes) room).0 in
    let enough : size ≤ allowed = omega (arith, is_allowed, sees.1, sees.2) in
    let least : lengths.head ≤ length (take allowed bytes) = omega (arith, lengths.least bytes, sees.0, len, enough) in
    let same : asked bytes ≡ asked (take allowed bytes) =
    ap asked (sym (take-append-drop allowed bytes)) ∙ lengths.told (take allowed bytes) (drop allowed bytes) least in
    omega (arith, same, sees.0, len, enough)

module _ {How : Type 0} (asked : How → List ℕ → ℕ) (how : How) (lengths : IsLength (asked how)) (at limit : ℕ) (end : Option Tail)
    (pending window : List ℕ) (left now : Option (List ℕ)) (same : ahead window now ≡ ahead pending left) where
  -- a reader that has come to see an item was brought one
  pub sees_brought : (size : ℕ) (old : Reading How) → end ≡ None → Keeps pending window
      → Sees (asked how) window (limit - at) (FrontItem size)
      → record { how = how; pending = pending; offset = at; limit = limit; end = end } ≡ old
      → IsBrought (asked old.how) (cursor old left) (cursor (record { how = how; pending = window; offset = at; limit = limit; end = end }) now)
  sees_brought size old going kept sees is_old =
      let after : Reading How = record { how = how; pending = window; offset = at; limit = limit; end = end } in
      let P : Reading How → Type 0 = λ r. IsBrought (asked r.how) (cursor r left) (cursor after now) in
      subst P is_old
      (record { same = same; kept = kept; held = held_whole (asked how) lengths window end (limit - at) size going sees; goes_on = refl })

none_brought : (tail : Tail) → Ok true ≡ more_of tail → ⊥
none_brought End e = cc
none_brought (Truncated o) e = cc
none_brought TooLong e = cc

-- if an item was brought the items go on
pub brought_goes_on : (A B : Type 0) (end : Option Tail) (is_held : Bool) → is_held ≡ true
    → IfSome end (λ tail. (Ok is_held ≡ more_of tail) × A × B) → end ≡ None
brought_goes_on A B None is_held e ended = refl
brought_goes_on A B (Some tail) is_held e ended =
    let P : Bool → Type 0 = λ b. Ok b ≡ more_of tail in
    absurd (none_brought tail (subst P e ended.0))

pub is_brought : {How : Type 0} (asked : List ℕ → ℕ) (old new : Cursor How) (is_held : Bool) → is_held ≡ true
    → Brings asked old new (Ok is_held) → IsBrought asked old new
is_brought asked old new is_held e brings = let P : Bool → Type 0 = λ b. Brings asked old new (Ok b) in subst P e brings

-- an item that was brought can be given out
pub brought_seen : {How : Type 0} (asked : How → List ℕ → ℕ) (old new : Cursor How) → IsLength (asked new.reader.how)
    → IsBrought (asked old.reader.how) old new → (allowed size : ℕ) → allowed ≡ allowed_bytes new.reader
    → size ≡ asked new.reader.how (take allowed new.reader.pending)
    → (new.reader.end ≡ None) × Sees (asked new.reader.how) new.reader.pending (new.reader.limit - new.reader.offset) (FrontItem size)
brought_seen {How} asked old new lengths brought allowed size is_allowed is_size =
    let of_how : Reading How → How = λ r. r.how in
    let one_how : new.reader.how ≡ old.reader.how = ap of_how brought.goes_on in
    let held : size ≡ asked old.reader.how (held_bytes new.reader) =
    is_size ∙ ap (λ h. asked h (take allowed new.reader.pending)) one_how ∙ ap (λ n. asked old.reader.how (take n new.reader.pending)) is_allowed in
    seen_item asked new.reader new.reader lengths refl allowed size is_allowed is_size
    (omega (arith, held, brought.held, length-held new.reader, is_allowed))

-- and then it is what `next` gives
pub brought_given : {How Item : Type 0} (asked : How → List ℕ → ℕ) (item_of : How → ℕ → List ℕ → Item)
    → ((how : How) → IsLength (asked how)) → (old new : Cursor How) (after : Reading How) (size : ℕ) (item : Item)
    → IsBrought (asked old.reader.how) old new → new.reader.offset ≤ new.reader.limit
    → Sees (asked new.reader.how) new.reader.pending (new.reader.limit - new.reader.offset) (FrontItem size)
    → after ≡ record new.reader { pending = drop size new.reader.pending; offset = new.reader.offset + size }
    → item ≡ item_of new.reader.how new.reader.offset (take size new.reader.pending)
    → Gives (asked old.reader.how) old (cursor after new.left) (item_of old.reader.how) item
brought_given {How} {Item} asked item_of lengths old new after size item brought within sees is_after is_item =
    let window : List ℕ = new.reader.pending in
    let o = old.reader in
    let S : Reading How → Type 0 = λ r. Sees (asked r.how) window (r.limit - r.offset) (FrontItem size) in
    let W : Reading How → Type 0 = λ r. r.offset ≤ r.limit in
    let I : Reading How → Type 0 = λ r. item ≡ item_of r.how r.offset (take size window) in
    let A : Reading How → Type 0 = λ r.
    after ≡ record { how = r.how; pending = drop size window; offset = r.offset + size; limit = r.limit; end = r.end } in
    gives_out asked o.how o.offset o.limit o.end o.pending window old.left new.left brought.same (lengths o.how) item_of size o after item
    (subst S brought.goes_on sees) (subst W brought.goes_on within) refl (subst A brought.goes_on is_after) (subst I brought.goes_on is_item)
