-- The table of the slots: what each has begun, the answer to one more part, and what is begun after it.
use Rattle.std.specs.Prelude.{ℕ, ◌≤◌, ◌==◌, Bool, true, false, if◌then◌else◌, List, [], ◌∷◌, ◌++◌, length}
use Rattle.std.specs.Prelude.{Option, Some, None, is_some, is_none, slice_set, replicate, position}
use Rattle.std.specs.List.{AllByRecursion}
use Rattle.std.specs.Option.{option_map}
use Rattle.voice_messages.specs.declared.voice2.Form.{Form}
use Rattle.voice_messages.specs.declared.voice2.Form.TheVariants as form
use Rattle.sysex_groups.specs.Exclusives.{Part, fits}
use Rattle.sysex_groups.specs.Table.{Begun, begun_after}
use Rattle.sysex8_streams.specs.History.{Answer8, held8, whole8, stray8, restarted8, restarted_whole8, too_long8, full8}

-- a stream that is begun: its key, the offset of its Start, and the bytes that are joined
pub record Stream8 : Type 0 where
  pub key : ℕ
  pub begun : Begun

abbrev pub Slot8 : Type 0
Slot8 = Option Stream8

-- whether a slot has this stream
abbrev pub is_of : ℕ → Slot8 → Bool
is_of key None = false
is_of key (Some stream) = stream.key == key

-- the slots, and how many bytes an exclusive may have
pub record Table8 : Type 0 where
  pub room : ℕ
  pub slots : List Slot8

abbrev pub empty_table8 : ℕ → ℕ → Table8
empty_table8 slots room = record { room = room; slots = replicate slots None }

-- what the first slot of a stream has
abbrev pub begun_among : ℕ → List Slot8 → Option Begun
begun_among key [] = None
begun_among key (slot ∷ slots) = if is_of key slot then option_map (λ stream. stream.begun) slot else begun_among key slots

-- what a stream has begun
abbrev pub begun8_in : Table8 → ℕ → Option Begun
begun8_in table key = begun_among key table.slots

-- the first slot that is idle
abbrev pub idle_slot : List Slot8 → Option ℕ
idle_slot slots = position is_none slots

-- the answer to a part of a stream that isn't begun, by whether a slot is idle
abbrev pub answer_unbegun : Bool → Form → List ℕ → Answer8
answer_unbegun idle form.Complete bytes = whole8 bytes
answer_unbegun true form.Start bytes = held8
answer_unbegun false form.Start bytes = full8
answer_unbegun idle form.Continue bytes = stray8
answer_unbegun idle form.End bytes = stray8

-- the answer to a part of a stream that is begun
abbrev pub answer_begun : ℕ → Begun → Form → List ℕ → Answer8
answer_begun room begun form.Complete bytes = restarted_whole8 begun.start bytes
answer_begun room begun form.Start bytes = restarted8 begun.start
answer_begun room begun form.Continue bytes = if fits (Some room) (length (begun.bytes ++ bytes)) then held8 else too_long8
answer_begun room begun form.End bytes =
    if fits (Some room) (length (begun.bytes ++ bytes)) then whole8 (begun.bytes ++ bytes) else too_long8

abbrev pub answer8_of : ℕ → Option Begun → Bool → Form → List ℕ → Answer8
answer8_of room None idle form bytes = answer_unbegun idle form bytes
answer8_of room (Some begun) idle form bytes = answer_begun room begun form bytes

-- the answer to one more part
abbrev pub answer8_to : Table8 → Part → Answer8
answer8_to table part = answer8_of table.room (begun8_in table part.group) (is_some (idle_slot table.slots)) part.form part.bytes

-- a slot with what a stream has begun
abbrev pub slot_with : ℕ → Option Begun → Slot8
slot_with key begun = option_map (λ b. record { key = key; begun = b }) begun

-- The slots once a stream has begun this, by its slot and one that is idle. A stream without a slot takes the idle one
-- if it has begun anything, and nothing changes if none is idle.
abbrev pub slots_with : ℕ → Option Begun → Option ℕ → Option ℕ → List Slot8 → List Slot8
slots_with key begun (Some own) idle slots = slice_set slots own (slot_with key begun)
slots_with key None None idle slots = slots
slots_with key (Some begun) None (Some idle) slots = slice_set slots idle (slot_with key (Some begun))
slots_with key (Some begun) None None slots = slots

abbrev pub slots_after : ℕ → Part → List Slot8 → List Slot8
slots_after room part slots =
    slots_with part.group (begun_after (Some room) (begun_among part.group slots) part.form part.bytes part.offset)
    (position (is_of part.group) slots) (idle_slot slots) slots

-- the table after one more part
abbrev pub with_part8 : Part → Table8 → Table8
with_part8 part table = record { room = table.room; slots = slots_after table.room part table.slots }

-- the table after parts of all streams, newest first
abbrev pub table8_over : ℕ → ℕ → List Part → Table8
table8_over slots room [] = empty_table8 slots room
table8_over slots room (part ∷ past) = with_part8 part (table8_over slots room past)

-- parts that packets can have
abbrev pub AreParts8 : List Part → Type 0
AreParts8 past = AllByRecursion (λ part. length part.bytes ≤ 13) past
