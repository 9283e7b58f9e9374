-- Exclusives in the packets of groups (M2-104-UM, system exclusive 7-bit messages), looking back over the parts that
-- came.
use Rattle.std.specs.Prelude.{ℕ, ◌≡◌, ◌<◌, ◌==◌, nat_le, All, Bool, true, false, if◌then◌else◌, List}
use Rattle.std.specs.Prelude.{[], ◌∷◌, ◌++◌, length, filter, reverse, Option, Some, None, is_some}
use Rattle.std.specs.List.{AllByRecursion, flat_map}
use Rattle.std.specs.Option.{option_map, option_and_then}
use Rattle.voice_messages.specs.declared.voice2.Form.{Form}
use Rattle.voice_messages.specs.declared.voice2.Form.TheVariants as form

-- what one packet has of an exclusive, and the packet's offset
pub record Part : Type 0 where
  pub group : ℕ
  pub form : Form
  pub bytes : List ℕ
  pub offset : ℕ

-- the parts of one group
abbrev pub of_group : ℕ → List Part → List Part
of_group group past = filter (λ part. part.group == group) past

-- Parts of one group, newest first: those of the exclusive that is open after them, which are Continue parts and
-- before them a Start.
abbrev pub since_start_by : Form → Part → Option (List Part) → Option (List Part)
since_start_by form.Start part before = Some (part ∷ [])
since_start_by form.Continue part before = option_map (λ parts. part ∷ parts) before
since_start_by form.Complete part before = None
since_start_by form.End part before = None

abbrev pub since_start : List Part → Option (List Part)
since_start [] = None
since_start (part ∷ past) = since_start_by part.form part (since_start past)

-- their bytes, in the order in which they came
abbrev pub bytes_of : List Part → List ℕ
bytes_of parts = flat_map (λ part. part.bytes) (reverse parts)

-- the offset of the Start, which came first of them
abbrev pub start_of : List Part → ℕ
start_of [] = 0
start_of (part ∷ []) = part.offset
start_of (part ∷ before ∷ past) = start_of (before ∷ past)

-- how many bytes an exclusive may have between F0 and F7, or none if there is no limit
abbrev pub Room : Type 0
Room = Option ℕ

abbrev pub fits : Room → ℕ → Bool
fits None size = true
fits (Some room) size = nat_le size room

abbrev pub within : Room → List Part → Option (List Part)
within room parts = if fits room (length (bytes_of parts)) then Some parts else None

-- the parts of the exclusive that a group has open, after these parts of all groups, newest first
abbrev pub opened : Room → ℕ → List Part → Option (List Part)
opened room group past = option_and_then (within room) (since_start (of_group group past))

-- These are the parts of the exclusive that a group has open after the others, by their places: it began with a Start
-- of the group, every part of the group since then is a Continue, and their bytes are within the limit.
pub record IsOpenedBy (room : Room) (group : ℕ) (past parts : List Part) : Type 0 where
  pub before : List Part
  pub start : Part
  pub after : List Part
  pub split : past ≡ after ++ start ∷ before
  pub own_start : start.group ≡ group
  pub starts : start.form ≡ form.Start
  pub continues : AllByRecursion (λ part. part.group ≡ group → part.form ≡ form.Continue) after
  pub own : parts ≡ of_group group after ++ start ∷ []
  pub within : fits room (length (bytes_of parts)) ≡ true

-- the bytes of the exclusive that a group has open
abbrev pub joined : Room → ℕ → List Part → Option (List ℕ)
joined room group past = option_map bytes_of (opened room group past)

-- the offset of the Start of the exclusive that a group has open
abbrev pub started : Room → ℕ → List Part → Option ℕ
started room group past = option_map start_of (opened room group past)

-- The bytes of the exclusive that a part ends, after these parts: its own if it is Complete; if it is an End, those
-- that were joined and its own, if they are within the limit.
abbrev pub ended_by : Room → Form → Option (List ℕ) → List ℕ → Option (List ℕ)
ended_by room form.Complete before bytes = Some bytes
ended_by room form.End (Some before) bytes = if fits room (length (before ++ bytes)) then Some (before ++ bytes) else None
ended_by room form.End None bytes = None
ended_by room form.Start before bytes = None
ended_by room form.Continue before bytes = None

abbrev pub ended : Room → List Part → Part → Option (List ℕ)
ended room past part = ended_by room part.form (joined room part.group past) part.bytes

-- whether a part continues or ends an exclusive: it is a Continue or an End
abbrev pub goes_on : Form → Bool
goes_on form.Complete = false
goes_on form.Start = false
goes_on form.Continue = true
goes_on form.End = true

-- whether a part continues or ends an open exclusive, and the bytes are more than the limit
abbrev pub passes_by : Room → Option (List ℕ) → List ℕ → Bool
passes_by room None bytes = false
passes_by room (Some before) bytes = if fits room (length (before ++ bytes)) then false else true

abbrev pub passes_room : Room → List Part → Part → Bool
passes_room room past part = if goes_on part.form then passes_by room (joined room part.group past) part.bytes else false

-- whether a part continues or ends an exclusive, and none is open
abbrev pub is_stray : Room → List Part → Part → Bool
is_stray room past part = if goes_on part.form then (if is_some (opened room part.group past) then false else true) else false

-- the offset of the Start of the exclusive that a part cuts: it is a Start or Complete, and one is open
abbrev pub cut_at : Room → List Part → Part → Option ℕ
cut_at room past part = if goes_on part.form then None else started room part.group past

-- the answer to a part
pub data Answer : Type 0 where
  held : Answer
  whole : List ℕ → Answer  -- from F0 to F7
  stray : Answer
  restarted : ℕ → Answer  -- the offset of the Start that was cut
  restarted_whole : ℕ → List ℕ → Answer
  too_long : Answer

-- an exclusive from F0 to F7
abbrev pub framed : List ℕ → List ℕ
framed bytes = 240 ∷ bytes ++ 247 ∷ []

-- data bytes are below 128
abbrev pub IsData : List ℕ → Type 0
IsData bytes = All (λ byte. byte < 128) bytes

-- data bytes between F0 and F7
abbrev pub IsExclusive : List ℕ → Type 0
IsExclusive bytes = (payload : List ℕ) × (bytes ≡ framed payload) × IsData payload

-- an answer's exclusive is one
abbrev pub LendsData : Answer → Type 0
LendsData held = Unit {0}
LendsData (whole bytes) = IsExclusive bytes
LendsData stray = Unit {0}
LendsData (restarted at) = Unit {0}
LendsData (restarted_whole at bytes) = IsExclusive bytes
LendsData too_long = Unit {0}

-- the answer of a part that cuts an exclusive, ends one, exceeds the limit, is stray, or none of these
abbrev pub answer_from : Option ℕ → Option (List ℕ) → Bool → Bool → Answer
answer_from (Some at) (Some bytes) passes unstarted = restarted_whole at (framed bytes)
answer_from (Some at) None passes unstarted = restarted at
answer_from None (Some bytes) passes unstarted = whole (framed bytes)
answer_from None None true unstarted = too_long
answer_from None None false true = stray
answer_from None None false false = held

abbrev pub answer_at : Room → List Part → Part → Answer
answer_at room past part = answer_from (cut_at room past part) (ended room past part) (passes_room room past part) (is_stray room past part)
