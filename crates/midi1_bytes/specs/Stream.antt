-- What is open in a MIDI 1.0 stream, counted back from its end (MIDI 1.0 Detailed Specification, running
-- status, system common, system exclusive and system Real Time messages). `past` is the bytes so far, newest
-- first.
use Rattle.std.specs.Prelude.{ℕ, ◌-◌, ◌%◌, nat_lt, nat_le, ◌==◌, Bool, true, if◌then◌else◌, List, [], ◌∷◌, length, Option, Some, None}
use Rattle.std.specs.Option.{option_map}
use Rattle.midi1_bytes.specs.declared.step.CutKind.{CutKind}
use Rattle.midi1_bytes.specs.declared.step.CutKind.TheVariants as kind
use Rattle.midi1_bytes.specs.Sorts.{data_count, Sort, voice_status, exclusive_start, common_status, sort_of, is_data, is_real_time}

-- Real Time may come anywhere and changes nothing else
abbrev pub without_real_time : List ℕ → List ℕ
without_real_time [] = []
without_real_time (byte ∷ past) =
    if is_real_time (sort_of byte) then without_real_time past
    else byte ∷ without_real_time past

-- the last status byte
abbrev pub last_status : List ℕ → Option ℕ
last_status [] = None
last_status (byte ∷ past) = if is_data (sort_of byte) then last_status past else Some byte

-- the data bytes after it, newest first
abbrev pub last_data : List ℕ → List ℕ
last_data [] = []
last_data (byte ∷ past) = if is_data (sort_of byte) then byte ∷ last_data past else []

-- how many bytes an exclusive may have between F0 and F7, or none if there is no limit
abbrev pub Room : Type 0
Room = Option ℕ

abbrev pub fits : Room → ℕ → Bool
fits None size = true
fits (Some room) size = nat_le size room

-- What is open after a status of this sort and this many data bytes. A voice status is one for all the
-- messages that follow it under running status; a common one is for a single message.
abbrev pub open_under : Room → Sort → ℕ → Option CutKind
open_under room (voice_status count) size =
    if size == 0 then Some kind.Message
    else if size % data_count count == 0 then None
    else Some kind.Message
open_under room (common_status count) size = if nat_lt size (data_count count) then Some kind.Message else None
open_under room exclusive_start size = if fits room size then Some kind.Exclusive else None
open_under room _ size = None

abbrev pub open_by : Room → Option ℕ → ℕ → Option CutKind
open_by room None size = None
open_by room (Some status) size = open_under room (sort_of status) size

abbrev pub open_in : Room → List ℕ → Option CutKind
open_in room past = let bytes = without_real_time past in open_by room (last_status bytes) (length (last_data bytes))

-- ---- its start

-- the offset of the byte that is followed by this many bytes other than Real Time
abbrev pub offset_before : ℕ → List ℕ → ℕ
offset_before size [] = 0
offset_before size (byte ∷ past) =
    if is_real_time (sort_of byte) then offset_before size past
    else if size == 0 then length past
    else offset_before (size - 1) past

-- How many bytes follow the start, Real Time left out: it is the status byte, or under running status the
-- first data byte of the message.
abbrev pub size_after_start : Sort → ℕ → ℕ
size_after_start (voice_status count) size = if nat_lt (data_count count) size then size % data_count count - 1 else size
size_after_start _ size = size

abbrev pub start_by : Option ℕ → ℕ → List ℕ → ℕ
start_by None size past = 0
start_by (Some status) size past = offset_before (size_after_start (sort_of status) size) past

-- the offset at which what is open starts
abbrev pub start_in : List ℕ → ℕ
start_in past = let bytes = without_real_time past in start_by (last_status bytes) (length (last_data bytes)) past

-- what is open at the end, and its start
pub record Open : Type 0 where
  pub start : ℕ
  pub kind : CutKind

abbrev pub open_at_end : Room → List ℕ → Option Open
open_at_end room past = option_map (λ kind. record { start = start_in past; kind = kind }) (open_in room past)

-- ---- running status

abbrev pub running_under : Sort → ℕ → Option ℕ
running_under (voice_status count) status = Some status
running_under _ status = None

abbrev pub running_by : Option ℕ → Option ℕ
running_by None = None
running_by (Some status) = running_under (sort_of status) status

-- the voice status that a data byte takes, if it takes one; system common and exclusive messages end it
abbrev pub running : List ℕ → Option ℕ
running past = running_by (last_status (without_real_time past))
