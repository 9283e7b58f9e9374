-- 8-bit exclusives of many streams (M2-104-UM, system exclusive 8-bit messages), looking back over the parts that
-- came. A stream is a group and a stream id. What is joined, cut and stray, and which limit holds, is what `Exclusives`
-- of `sysex_groups` says of groups, with a stream's key as a group's number, over the parts that were taken. Lists of
-- parts are newest first.
use Rattle.std.specs.Prelude.{ℕ, ◌≡◌, ◌≤◌, ◌+◌, ◌*◌, ◌==◌, nat_lt, not, ◌||◌, Bool, true, false, if◌then◌else◌}
use Rattle.std.specs.Prelude.{List, [], ◌∷◌, ◌++◌, length, filter, count_by, Option, Some, None, is_some}
use Rattle.std.specs.List.{AllByRecursion}
use Rattle.voice_messages.specs.declared.voice2.Form.{Form}
use Rattle.voice_messages.specs.declared.voice2.Form.TheVariants as form
use Rattle.sysex_groups.specs.Exclusives.{Part, of_group, bytes_of, opened, ended, passes_room, is_stray, cut_at}
use Rattle.sysex8_streams.specs.declared.part8.Part8.{Part8}

-- the key of a stream
abbrev pub key_of : ℕ → ℕ → ℕ
key_of group stream = group * 256 + stream

-- what a packet says, with the packet's offset, as a part of its stream
abbrev pub part_of : Part8 → ℕ → Part
part_of part offset = record { group = key_of part.group part.stream; form = part.form; bytes = part.bytes; offset = offset }

-- the keys of these parts, each once
abbrev pub keys : List Part → List ℕ
keys [] = []
keys (part ∷ past) = part.group ∷ filter (λ key. not (key == part.group)) (keys past)

-- whether a stream is begun after these parts
abbrev pub is_begun : ℕ → List Part → ℕ → Bool
is_begun room past key = is_some (opened (Some room) key past)

-- how many streams are begun after these parts
abbrev pub begun_count : ℕ → List Part → ℕ
begun_count room past = count_by (is_begun room past) (keys past)

-- Whether a part is taken, by whether its stream is begun and whether fewer streams are begun than there are slots: a
-- Start is if one of the two holds, and a part of another form always is.
abbrev pub is_taken_by : Form → Bool → Bool → Bool
is_taken_by form.Start begun fewer = begun || fewer
is_taken_by form.Complete begun fewer = true
is_taken_by form.Continue begun fewer = true
is_taken_by form.End begun fewer = true

-- whether a part is taken after these, which were taken
abbrev pub is_taken : ℕ → ℕ → List Part → Part → Bool
is_taken slots room past part = is_taken_by part.form (is_begun room past part.group) (nat_lt (begun_count room past) slots)

-- the parts that were taken, and this one if it is taken after them
abbrev pub with_taken : ℕ → ℕ → List Part → Part → List Part
with_taken slots room past part = if is_taken slots room past part then part ∷ past else past

-- the parts among these that were taken
abbrev pub taken : ℕ → ℕ → List Part → List Part
taken slots room [] = []
taken slots room (part ∷ past) = with_taken slots room (taken slots room past) part

-- the parts, newest first, of the exclusive that a stream has begun after these
abbrev pub opened8 : ℕ → ℕ → List Part → ℕ → Option (List Part)
opened8 slots room past key = opened (Some room) key (taken slots room past)

-- These are the parts of the exclusive that a stream has begun after the others, by their places: it began with a Start
-- of the stream that was taken, every part of the stream since then is a Continue, and their bytes are within the limit.
pub record IsOpenedBy (slots room : ℕ) (past : List Part) (key : ℕ) (parts : List Part) : Type 0 where
  pub before : List Part
  pub start : Part
  pub after : List Part
  pub split : past ≡ after ++ start ∷ before
  pub of_key : start.group ≡ key
  pub starts : start.form ≡ form.Start
  pub accepted : is_taken slots room (taken slots room before) start ≡ true
  pub continues : AllByRecursion (λ part. part.group ≡ key → part.form ≡ form.Continue) after
  pub own : parts ≡ of_group key after ++ start ∷ []
  pub within : length (bytes_of parts) ≤ room

-- the answer to a part
pub data Answer8 : Type 0 where
  held8 : Answer8
  whole8 : List ℕ → Answer8  -- the joined bytes
  stray8 : Answer8
  restarted8 : ℕ → Answer8  -- the offset of the Start that was cut
  restarted_whole8 : ℕ → List ℕ → Answer8
  too_long8 : Answer8
  full8 : Answer8

-- the answer of a part that cuts an exclusive, ends one, exceeds the limit, is stray, isn't taken, or does none of
-- these
abbrev pub answer8_from : Option ℕ → Option (List ℕ) → Bool → Bool → Bool → Answer8
answer8_from (Some at) (Some bytes) passes stray accepted = restarted_whole8 at bytes
answer8_from (Some at) None passes stray accepted = restarted8 at
answer8_from None (Some bytes) passes stray accepted = whole8 bytes
answer8_from None None true stray accepted = too_long8
answer8_from None None false true accepted = stray8
answer8_from None None false false true = held8
answer8_from None None false false false = full8

abbrev pub answer_taken : ℕ → ℕ → List Part → Part → Answer8
answer_taken slots room past part =
    answer8_from (cut_at (Some room) past part) (ended (Some room) past part) (passes_room (Some room) past part)
    (is_stray (Some room) past part) (is_taken slots room past part)

-- the answer to a part after these
abbrev pub answer8 : ℕ → ℕ → List Part → Part → Answer8
answer8 slots room past part = answer_taken slots room (taken slots room past) part
