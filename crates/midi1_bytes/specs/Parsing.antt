-- What a parser holds between two bytes, and what a byte does to it (MIDI 1.0 Detailed Specification): the
-- rows of the definition, by the state instead of all the bytes before.
use Rattle.std.specs.Prelude.{◌≡◌, ℕ, ◌+◌, if◌then◌else◌, List, [], ◌∷◌, ◌++◌, reverse, length, suc, Option, Some, None}
use Rattle.std.specs.Option.{option_map, option_and_then}
use Rattle.voice_messages.specs.declared.voice1.System.TheVariants as system
use Rattle.midi1_bytes.specs.declared.step.CutKind.{CutKind}
use Rattle.midi1_bytes.specs.declared.step.CutKind.TheVariants as kind
use Rattle.midi1_bytes.specs.declared.step.AfterCut.{AfterCut}
use Rattle.midi1_bytes.specs.declared.step.AfterCut.TheVariants as after
use Rattle.midi1_bytes.specs.Sorts.{one, two, Sort, data_byte, voice_status, exclusive_start, common_status, tune_request}
use Rattle.midi1_bytes.specs.Sorts.{undefined_status, exclusive_end, real_time_status, undefined_real_time, sort_of}
use Rattle.midi1_bytes.specs.Messages.{Message, voice, common, exclusive, real_time, voice_of, common_of, real_time_of}
use Rattle.midi1_bytes.specs.Stream.{Open, fits, without_real_time, last_status, last_data, open_in, start_in, running}
use Rattle.midi1_bytes.specs.Steps.{Step, held, completes, stray, undefined, cut, too_long}

-- What is open: a message by its start, its status byte, and its first data byte if one came; an exclusive by
-- its start and the bytes after its F0, in order.
pub data Begun : Type 0 where
  begun_message : ℕ → ℕ → Option ℕ → Begun
  begun_exclusive : ℕ → List ℕ → Begun

-- what a parser holds
pub record Parsing : Type 0 where
  pub room : ℕ
  pub running : Option ℕ
  pub begun : Option Begun

-- nothing is open, and there is no running status
abbrev pub idle : ℕ → Parsing
idle room = record { room = room; running = None; begun = None }

-- nothing is open, under this running status
abbrev pub quiet : ℕ → Option ℕ → Parsing
quiet room running = record { room = room; running = running; begun = None }

-- something is open, under this running status
abbrev pub beginning : ℕ → Option ℕ → Begun → Parsing
beginning room running begun = record { room = room; running = running; begun = Some begun }

-- ---- what is open

abbrev pub open_begun : Begun → Open
open_begun (begun_message start status first) = record { start = start; kind = kind.Message }
open_begun (begun_exclusive start bytes) = record { start = start; kind = kind.Exclusive }

abbrev pub open_of : Parsing → Option Open
open_of parsing = option_map open_begun parsing.begun

-- this step, or the cut of what is open
abbrev pub cut_by : Option Open → AfterCut → Step → Step
cut_by None after step = step
cut_by (Some open_one) after step = cut open_one.start open_one.kind after

-- what F7 does
abbrev pub ended_by : Option Begun → Step
ended_by None = stray
ended_by (Some (begun_message start status first)) = cut start kind.Message after.Stray
ended_by (Some (begun_exclusive start bytes)) = completes (exclusive bytes)

-- ---- a data byte

-- a data byte of a message, by the sort of its status and its first data byte
abbrev pub message_step : Sort → ℕ → Option ℕ → ℕ → Step
message_step (voice_status one) status first byte = completes (voice (voice_of one status byte []))
message_step (voice_status two) status None byte = held
message_step (voice_status two) status (Some first) byte = completes (voice (voice_of two status byte (first ∷ [])))
message_step (common_status one) status first byte = completes (common (common_of one status byte []))
message_step (common_status two) status None byte = held
message_step (common_status two) status (Some first) byte = completes (common (common_of two status byte (first ∷ [])))
message_step _ status first byte = stray

-- a data byte of what is open; an exclusive takes what its limit allows
abbrev pub data_step : ℕ → Begun → ℕ → Step
data_step room (begun_message start status first) byte = message_step (sort_of status) status first byte
data_step room (begun_exclusive start bytes) byte = if fits (Some room) (suc (length bytes)) then held else too_long

-- what is open with one more data byte
abbrev pub grown : Begun → ℕ → Begun
grown (begun_message start status first) byte = begun_message start status (Some byte)
grown (begun_exclusive start bytes) byte = begun_exclusive start (bytes ++ byte ∷ [])

-- a data byte that is held leaves it open, any other ends it
abbrev pub begun_after : Step → Begun → Option Begun
begun_after held begun = Some begun
begun_after _ begun = None

-- ---- a byte

-- what a byte does, and the state after it
pub record Parsed : Type 0 where
  pub step : Step
  pub after : Parsing

abbrev pub with_data : ℕ → Option ℕ → Begun → ℕ → Parsed
with_data room running begun byte =
    let step = data_step room begun byte in
    record { step = step; after = record { room = room; running = running; begun = begun_after step (grown begun byte) } }

-- a data byte continues what is open, begins a message under running status, or is stray
abbrev pub parse_data : ℕ → Option ℕ → Option Begun → ℕ → ℕ → Parsed
parse_data room running (Some begun) offset byte = with_data room running begun byte
parse_data room (Some status) None offset byte = with_data room (Some status) (begun_message offset status None) byte
parse_data room None None offset byte = record { step = stray; after = idle room }

abbrev pub parse_under : Sort → Parsing → ℕ → ℕ → Parsed
parse_under data_byte parsing offset byte = parse_data parsing.room parsing.running parsing.begun offset byte
parse_under (voice_status count) parsing offset byte = record {
  step = cut_by (open_of parsing) after.Begins held;
  after = beginning parsing.room (Some byte) (begun_message offset byte None);
}
parse_under exclusive_start parsing offset byte =
    record { step = cut_by (open_of parsing) after.Begins held; after = beginning parsing.room None (begun_exclusive offset []) }
parse_under (common_status count) parsing offset byte =
    record { step = cut_by (open_of parsing) after.Begins held; after = beginning parsing.room None (begun_message offset byte None) }
parse_under tune_request parsing offset byte =
    record { step = cut_by (open_of parsing) after.Tune (completes (common system.Tune)); after = idle parsing.room }
parse_under undefined_status parsing offset byte =
    record { step = cut_by (open_of parsing) after.Undefined undefined; after = idle parsing.room }
parse_under exclusive_end parsing offset byte = record { step = ended_by parsing.begun; after = idle parsing.room }
parse_under real_time_status parsing offset byte = record { step = completes (real_time (real_time_of byte)); after = parsing }
parse_under undefined_real_time parsing offset byte = record { step = undefined; after = parsing }

-- a byte at this offset
abbrev pub parse : Parsing → ℕ → ℕ → Parsed
parse parsing offset byte = parse_under (sort_of byte) parsing offset byte

-- ---- several bytes, oldest first

-- These bytes, the first of them at this offset, are held one after the other; and the state after the
-- last of them.
abbrev pub AreHeld : List ℕ → Parsing → ℕ → Parsing → Type 0
AreHeld [] parsing offset new = new ≡ parsing
AreHeld (byte ∷ more) parsing offset new =
    ((parse parsing offset byte).step ≡ held) × AreHeld more (parse parsing offset byte).after (offset + 1) new

-- These bytes, the first of them at this offset, are a message: each is held but the last, which completes
-- it; and the state after the last of them.
abbrev pub AreMessage : List ℕ → Parsing → ℕ → Message → Parsing → Type 0
AreMessage [] parsing offset message new = ⊥
AreMessage (byte ∷ []) parsing offset message new =
    ((parse parsing offset byte).step ≡ completes message) × (new ≡ (parse parsing offset byte).after)
AreMessage (byte ∷ next ∷ more) parsing offset message new =
    ((parse parsing offset byte).step ≡ held) × AreMessage (next ∷ more) (parse parsing offset byte).after (offset + 1) message new

-- ---- what a parser holds after these bytes, newest first

-- the first data byte of an open message, by the data bytes after its status: it is the last of them
abbrev pub first_of : List ℕ → Option ℕ
first_of [] = None
first_of (byte ∷ before) = Some byte

abbrev pub begun_by : CutKind → ℕ → List ℕ → ℕ → Begun
begun_by kind.Message start before status = begun_message start status (first_of before)
begun_by kind.Exclusive start before status = begun_exclusive start (reverse before)

abbrev pub begun_over : ℕ → List ℕ → Option Begun
begun_over room past =
    let bytes = without_real_time past in
    option_and_then (λ what. option_map (begun_by what (start_in past) (last_data bytes)) (last_status bytes)) (open_in (Some room) past)

abbrev pub held_over : ℕ → List ℕ → Parsing
held_over room past = record { room = room; running = running past; begun = begun_over room past }
