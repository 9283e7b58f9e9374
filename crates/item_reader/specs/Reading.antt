-- What a reader of items answers.
use Rattle.std.specs.Prelude.{◌≡◌, ℕ, ◌+◌, ◌-◌, ◌≤◌, min, ◌<◌, nat_lt, Bool, true, false, List, [], ◌++◌, length, take, drop}
use Rattle.std.specs.Prelude.{Option, None, Some, Result, Ok, Err, IfSome}
use Rattle.item_reader.specs.Cut.{IsItem, IsRest, Ends}
use Rattle.outside.specs.Outside.{Loses, Rose, ahead}
use Rattle.item_reader.specs.declared.cutting.Tail.{Tail}
use Rattle.item_reader.specs.declared.cutting.Tail.TheVariants.{End, Truncated, TooLong}
use Rattle.outside.specs.declared.objects.ReadStop.{ReadStop}
use Rattle.outside.specs.declared.objects.ReadStop.TheVariants.{Read, Truncated as StopTruncated, TooLong as StopTooLong}

-- A reader: how it cuts, the bytes that it took and has not given out, the offset of the next item, and its last answer
-- if there was one.
pub record Reading (How : Type 0) : Type 0 where
  pub how : How
  pub pending : List ℕ
  pub offset : ℕ
  pub limit : ℕ
  pub end : Option Tail

-- a reader that has taken nothing
abbrev pub new_reading : {How : Type 0} → How → ℕ → Reading How
new_reading how limit = record { how = how; pending = []; offset = 0; limit = limit; end = None }

-- how many of the bytes that are held may be given out: those within the room, and once the items have ended none
abbrev pub allowed_by : Option Tail → ℕ → ℕ → ℕ
allowed_by None held room = min held room
allowed_by (Some tail) held room = 0

abbrev pub allowed_bytes : {How : Type 0} → Reading How → ℕ
allowed_bytes reader = allowed_by reader.end (length reader.pending) (reader.limit - reader.offset)

-- the bytes that are held and may be given out
abbrev pub held_bytes : {How : Type 0} → Reading How → List ℕ
held_bytes reader = take (allowed_bytes reader) reader.pending

-- the reader after so many of the bytes that it holds
abbrev pub passed : {How : Type 0} → ℕ → Reading How → Reading How
passed count reader = record reader { pending = drop count reader.pending; offset = reader.offset + count }

-- whether no item can be given out of the bytes that are held
abbrev pub needs_input : {How : Type 0} → (List ℕ → ℕ) → Reading How → Bool
needs_input asked reader = let allowed = allowed_bytes reader in nat_lt allowed (asked (take allowed reader.pending))

-- A reader over its source, at some place in the stream: the reader, and what the source has left, if it tells that.
pub record Cursor (How : Type 0) : Type 0 where
  pub reader : Reading How
  pub left : Option (List ℕ)

abbrev pub cursor : {How : Type 0} → Reading How → Option (List ℕ) → Cursor How
cursor reader left = record { reader = reader; left = left }

-- what lies ahead of it: what the reader holds, and then what the source has left
abbrev pub ahead_of : {How : Type 0} → Cursor How → Option (List ℕ)
ahead_of at = ahead at.reader.pending at.left

-- the answer for a tail
abbrev pub answer_of : {Item : Type 0} → Tail → Result (Option Item) ReadStop
answer_of End = Ok None
answer_of (Truncated o) = Err (StopTruncated o)
answer_of TooLong = Err StopTooLong

-- bytes are still held, and perhaps more
abbrev pub Keeps : List ℕ → List ℕ → Type 0
Keeps old new = (more : List ℕ) × (new ≡ old ++ more)

module _ {How : Type 0} (asked : List ℕ → ℕ) (old new : Cursor How) where
  -- an item is given out: what is ahead loses its bytes
  pub record Gives {Item : Type 0} (item_of : ℕ → List ℕ → Item) (item : Item) : Type 0 where
    pub chunk : List ℕ
    pub is_item : IsItem asked chunk
    pub lost : Loses (ahead_of old) (ahead_of new) chunk
    pub item_is : item ≡ item_of old.reader.offset chunk
    pub within : old.reader.offset + length chunk ≤ old.reader.limit
    pub goes_on : new.reader ≡ record old.reader { pending = new.reader.pending; offset = old.reader.offset + length chunk }

  -- nothing is given out, no byte is lost, and there is no whole item yet
  pub record Waits : Type 0 where
    pub same : ahead_of new ≡ ahead_of old
    pub kept : Keeps old.reader.pending new.reader.pending
    pub partial : IsRest asked new.reader.pending
    pub within : old.reader.offset + length new.reader.pending ≤ old.reader.limit
    pub goes_on : new.reader ≡ record old.reader { pending = new.reader.pending }

  -- the items end with this tail, from now on: so do all bytes, and so do those that are held
  pub record Finishes (tail : Tail) : Type 0 where
    pub same : ahead_of new ≡ ahead_of old
    pub kept : Keeps old.reader.pending new.reader.pending
    pub held : Ends asked old.reader.limit old.reader.offset new.reader.pending tail
    pub ends : IfSome (ahead_of old) (λ bytes. Ends asked old.reader.limit old.reader.offset bytes tail)
    pub goes_on : new.reader ≡ record old.reader { pending = new.reader.pending; end = Some tail }

-- what `next` answers if the items have not ended before
abbrev pub Answers : {How Item : Type 0} → (List ℕ → ℕ) → (ℕ → List ℕ → Item) → Cursor How → Cursor How →
    Result (Option Item) ReadStop → Type 0
Answers asked item_of old new (Ok (Some item)) = Gives asked old new item_of item
Answers asked item_of old new (Ok None) = Finishes asked old new End
Answers asked item_of old new (Err (Read failed)) = Waits asked old new
Answers asked item_of old new (Err (StopTruncated o)) = Finishes asked old new (Truncated o)
Answers asked item_of old new (Err StopTooLong) = Finishes asked old new TooLong

-- the source's count never falls, and rose if a read failed
abbrev pub ReadCause : {Item : Type 0} → ℕ → ℕ → Result (Option Item) ReadStop → Type 0
ReadCause before now (Ok item) = now ≡ before
ReadCause before now (Err (Read failed)) = (before ≤ now) × Rose before now
ReadCause before now (Err (StopTruncated o)) = now ≡ before
ReadCause before now (Err StopTooLong) = now ≡ before

-- An item that is held after `at` bytes: it takes up the bytes up to `next`, and it is what is given out there, whatever the source
-- has left.
pub record IsHeldAt {How Item : Type 0} (asked : List ℕ → ℕ) (item_of : ℕ → List ℕ → Item) (at next : ℕ) (reader : Reading How)
    (item : Item) : Type 0 where
  pub further : at < next
  pub fits : next ≤ allowed_bytes reader
  pub gives : (left : Option (List ℕ)) → Gives asked (cursor (passed at reader) left) (cursor (passed next reader) left) item_of item

-- if these bytes, which are held after `at` bytes, begin with a whole item, that item is held there
abbrev pub BeginsItemAt : {How Item : Type 0} → (List ℕ → ℕ) → (ℕ → List ℕ → Item) → ℕ → Reading How → List ℕ → Type 0
BeginsItemAt asked item_of at reader bytes =
    (size : ℕ) → size ≡ asked bytes → size ≤ length bytes →
    IsHeldAt asked item_of at (at + size) reader (item_of (reader.offset + at) (take size bytes))

-- the answer of `more` for a tail
abbrev pub more_of : Tail → Result Bool ReadStop
more_of End = Ok false
more_of (Truncated o) = Err (StopTruncated o)
more_of TooLong = Err StopTooLong

-- nothing is given out, no byte is lost, and a whole item is held within the limit
pub record IsBrought {How : Type 0} (asked : List ℕ → ℕ) (old new : Cursor How) : Type 0 where
  pub same : ahead_of new ≡ ahead_of old
  pub kept : Keeps old.reader.pending new.reader.pending
  pub held : asked (held_bytes new.reader) ≤ length (held_bytes new.reader)
  pub goes_on : new.reader ≡ record old.reader { pending = new.reader.pending }

-- what `more` answers if the items have not ended before
abbrev pub Brings : {How : Type 0} → (List ℕ → ℕ) → Cursor How → Cursor How → Result Bool ReadStop → Type 0
Brings asked old new (Ok true) = IsBrought asked old new
Brings asked old new (Ok false) = Finishes asked old new End
Brings asked old new (Err (Read failed)) = Waits asked old new
Brings asked old new (Err (StopTruncated o)) = Finishes asked old new (Truncated o)
Brings asked old new (Err StopTooLong) = Finishes asked old new TooLong

-- the source's count never falls, and rose if a read failed
abbrev pub MoreCause : ℕ → ℕ → Result Bool ReadStop → Type 0
MoreCause before now (Ok held) = now ≡ before
MoreCause before now (Err (Read failed)) = (before ≤ now) × Rose before now
MoreCause before now (Err (StopTruncated o)) = now ≡ before
MoreCause before now (Err StopTooLong) = now ≡ before
