-- The table of the sixteen groups: what each has open, the answer to one more part, and what is open then.
use Rattle.std.specs.Prelude.{ℕ, ◌<◌, ◌≤◌, if◌then◌else◌, List, [], ◌∷◌, ◌++◌, length}
use Rattle.std.specs.Prelude.{Option, Some, None, slice_index_or, slice_set, replicate}
use Rattle.std.specs.List.{AllByRecursion}
use Rattle.std.specs.Option.{option_map}
use Rattle.voice_messages.specs.declared.voice2.Form.{Form}
use Rattle.voice_messages.specs.declared.voice2.Form.TheVariants as form
use Rattle.sysex_groups.specs.Exclusives.{Part, Room, fits, Answer, held, whole, stray, restarted}
use Rattle.sysex_groups.specs.Exclusives.{restarted_whole, too_long, framed, opened, start_of, bytes_of}

-- an exclusive that is open: the offset of its Start, and the bytes that are joined
pub record Begun : Type 0 where
  pub start : ℕ
  pub bytes : List ℕ

-- the answer to a part, by what its group has open
abbrev pub answer_of : Room → Option Begun → Form → List ℕ → Answer
answer_of room None form.Complete bytes = whole (framed bytes)
answer_of room None form.Start bytes = held
answer_of room None form.Continue bytes = stray
answer_of room None form.End bytes = stray
answer_of room (Some begun) form.Complete bytes = restarted_whole begun.start (framed bytes)
answer_of room (Some begun) form.Start bytes = restarted begun.start
answer_of room (Some begun) form.Continue bytes = if fits room (length (begun.bytes ++ bytes)) then held else too_long
answer_of room (Some begun) form.End bytes =
    if fits room (length (begun.bytes ++ bytes)) then whole (framed (begun.bytes ++ bytes)) else too_long

-- what the group has open after it
abbrev pub begun_after : Room → Option Begun → Form → List ℕ → ℕ → Option Begun
begun_after room before form.Complete bytes offset = None
begun_after room before form.Start bytes offset = Some (record { start = offset; bytes = bytes })
begun_after room None form.Continue bytes offset = None
begun_after room (Some begun) form.Continue bytes offset =
    if fits room (length (begun.bytes ++ bytes)) then Some (record { start = begun.start; bytes = begun.bytes ++ bytes }) else None
begun_after room before form.End bytes offset = None

-- the sixteen groups, and how many bytes an exclusive may have between F0 and F7
pub record Table : Type 0 where
  pub room : ℕ
  pub groups : List (Option Begun)

abbrev pub empty_table : ℕ → Table
empty_table room = record { room = room; groups = replicate 16 None }

-- what a group has open
abbrev pub begun_in : Table → ℕ → Option Begun
begun_in table group = slice_index_or table.groups group None

-- the answer to one more part
abbrev pub answer_to : Table → Part → Answer
answer_to table part = answer_of (Some table.room) (begun_in table part.group) part.form part.bytes

-- the table after it; all other groups stay
abbrev pub with_part : Part → Table → Table
with_part part table = record {
  room = table.room;
  groups = slice_set table.groups part.group (begun_after (Some table.room) (begun_in table part.group) part.form part.bytes part.offset);
}

-- the table after parts of all groups, newest first
abbrev pub table_over : ℕ → List Part → Table
table_over room [] = empty_table room
table_over room (part ∷ past) = with_part part (table_over room past)

-- what the definition says that a group has open
abbrev pub begun_of : List Part → Begun
begun_of parts = record { start = start_of parts; bytes = bytes_of parts }

abbrev pub begun_over : Room → ℕ → List Part → Option Begun
begun_over room group past = option_map begun_of (opened room group past)

-- a part that a packet can have
abbrev pub IsPart : Part → Type 0
IsPart part = (part.group < 16) × (length part.bytes ≤ 6)

abbrev pub AreParts : List Part → Type 0
AreParts past = AllByRecursion IsPart past
