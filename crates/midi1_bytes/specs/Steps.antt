-- What a byte of a MIDI 1.0 stream does, from the bytes before it (MIDI 1.0 Detailed Specification). `past`
-- is those bytes, newest first. Own rules: what is cut off is dropped and reported, and so is a byte that
-- belongs to nothing.
use Rattle.std.specs.Prelude.{◌≡◌, ℕ, ◌%◌, nat_lt, ◌==◌, if◌then◌else◌, List, [], ◌∷◌, ◌++◌, reverse, length, suc, Option, Some, None}
use Rattle.std.specs.Option.{option_to_list}
use Rattle.voice_messages.specs.declared.voice1.System.TheVariants as system
use Rattle.midi1_bytes.specs.declared.step.CutKind.{CutKind}
use Rattle.midi1_bytes.specs.declared.step.CutKind.TheVariants as kind
use Rattle.midi1_bytes.specs.declared.step.AfterCut.{AfterCut}
use Rattle.midi1_bytes.specs.declared.step.AfterCut.TheVariants as after
use Rattle.midi1_bytes.specs.Sorts.{data_count, Sort, data_byte, voice_status, exclusive_start, common_status, tune_request}
use Rattle.midi1_bytes.specs.Sorts.{undefined_status, exclusive_end, real_time_status, undefined_real_time, sort_of}
use Rattle.midi1_bytes.specs.Messages.{Message, voice, common, exclusive, real_time, voice_of, common_of, real_time_of}
use Rattle.midi1_bytes.specs.Stream.{Room, fits, without_real_time, last_status, last_data, open_in, start_in}

pub data Step : Type 0 where
  held : Step
  completes : Message → Step
  stray : Step
  undefined : Step
  cut : ℕ → CutKind → AfterCut → Step
  too_long : Step

-- A data byte after a status of this sort and the data bytes that follow it. Voice messages follow one
-- another under running status; a common status is for a single message; an exclusive takes what its limit
-- allows.
abbrev pub data_under : Room → Sort → ℕ → List ℕ → ℕ → Step
data_under room (voice_status count) status before byte =
    if suc (length before) % data_count count == 0 then completes (voice (voice_of count status byte before))
    else held
data_under room (common_status count) status before byte =
    if suc (length before) == data_count count then completes (common (common_of count status byte before))
    else if nat_lt (suc (length before)) (data_count count) then held
    else stray
data_under room exclusive_start status before byte =
    if fits room (suc (length before)) then held
    else if fits room (length before) then too_long
    else stray
data_under room _ status before byte = stray

abbrev pub data_by : Room → Option ℕ → List ℕ → ℕ → Step
data_by room None before byte = stray
data_by room (Some status) before byte = data_under room (sort_of status) status before byte

-- this step, or the cut of what is open
abbrev pub cut_or : Option CutKind → ℕ → AfterCut → Step → Step
cut_or None start after step = step
cut_or (Some what) start after step = cut start what after

-- F7 ends an exclusive; a message that is open is cut, and F7 is stray
abbrev pub end_by : Option CutKind → ℕ → List ℕ → Step
end_by (Some kind.Exclusive) start before = completes (exclusive (reverse before))
end_by (Some kind.Message) start before = cut start kind.Message after.Stray
end_by None start before = stray

abbrev pub step_under : Room → Sort → List ℕ → ℕ → Step
step_under room data_byte past byte =
    let bytes = without_real_time past in
    data_by room (last_status bytes) (last_data bytes) byte
step_under room (voice_status count) past byte = cut_or (open_in room past) (start_in past) after.Begins held
step_under room exclusive_start past byte = cut_or (open_in room past) (start_in past) after.Begins held
step_under room (common_status count) past byte = cut_or (open_in room past) (start_in past) after.Begins held
step_under room tune_request past byte = cut_or (open_in room past) (start_in past) after.Tune (completes (common system.Tune))
step_under room undefined_status past byte = cut_or (open_in room past) (start_in past) after.Undefined undefined
step_under room exclusive_end past byte = end_by (open_in room past) (start_in past) (last_data (without_real_time past))
step_under room real_time_status past byte = completes (real_time (real_time_of byte))
step_under room undefined_real_time past byte = undefined

abbrev pub step_of : Room → List ℕ → ℕ → Step
step_of room past byte = step_under room (sort_of byte) past byte

-- the message that a step completes; a tune request is one also if it cuts something off
abbrev pub completed_by : Step → Option Message
completed_by (completes message) = Some message
completed_by (cut start what after.Tune) = Some (common system.Tune)
completed_by _ = None

-- the messages that the bytes complete, in order, with a limit that isn't reached
abbrev pub completed : List ℕ → List Message
completed [] = []
completed (byte ∷ past) = completed past ++ option_to_list (completed_by (step_of None past byte))

-- After these bytes a piece is read as these messages, and nothing is open after it.
pub record ReadsAs (past piece : List ℕ) (messages : List Message) : Type 0 where
  pub completes : completed (reverse piece ++ past) ≡ completed past ++ messages
  pub closed : open_in None (reverse piece ++ past) ≡ None
