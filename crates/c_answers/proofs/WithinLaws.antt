-- An exclusive that is open stays within its limit, and so does one that a byte ends.
use Rattle.std.proofs.Common.{◌≡◌, ℕ, ◌≤◌, Bool, true, false, if◌then◌else◌, List, [], ◌∷◌}
use Rattle.std.proofs.Common.{◌++◌, length, suc, arith, Option, Some, None, refl, length-append}
use Rattle.std.proofs.lemmas.Bool.{leb-true}
use Rattle.std.specs.Prelude.{nat_le}
use Rattle.midi1_bytes.specs.declared.step.AfterCut.{AfterCut}
use Rattle.midi1_bytes.specs.declared.step.AfterCut.TheVariants as after
use Rattle.midi1_bytes.specs.Messages.{common}
use Rattle.midi1_bytes.specs.Parsing.{Begun, begun_message, begun_exclusive, Parsing, cut_by, ended_by}
use Rattle.midi1_bytes.specs.Parsing.{message_step, data_step, grown, begun_after, parse_data, parse_under, parse}
use Rattle.midi1_bytes.specs.Sorts.{one, two, Sort, data_byte, voice_status, exclusive_start, common_status, tune_request}
use Rattle.midi1_bytes.specs.Sorts.{undefined_status, exclusive_end, real_time_status, undefined_real_time, sort_of}
use Rattle.midi1_bytes.specs.Steps.{Step, held, completes, undefined, too_long}
use Rattle.midi1_bytes.specs.Stream.{Open}
use Rattle.voice_messages.specs.declared.voice1.System.TheVariants as system
use Rattle.c_answers.specs.Within.{CompletesWithin, IsOpenWithin, IsWithin, StaysWithin}

-- ---- a data byte

message_within : (room : ℕ) (sort : Sort) (status : ℕ) (first : Option ℕ) (byte : ℕ)
    → CompletesWithin room (message_step sort status first byte)
message_within room (voice_status one) status first byte = tt
message_within room (voice_status two) status None byte = tt
message_within room (voice_status two) status (Some first) byte = tt
message_within room (common_status one) status first byte = tt
message_within room (common_status two) status None byte = tt
message_within room (common_status two) status (Some first) byte = tt
message_within room _ status first byte = tt

-- a message that goes on has no bytes of an exclusive
message_goes_on : (room : ℕ) (step : Step) (start status : ℕ) (first : Option ℕ)
    → IsOpenWithin room (begun_after step (begun_message start status first))
message_goes_on room held start status first = omega arith
message_goes_on room _ start status first = omega arith

grows_within : (room start : ℕ) (more : List ℕ) (fits : Bool) → (fits ≡ true → length more ≤ room) →
    CompletesWithin room (if fits then held else too_long)
    × IsOpenWithin room (begun_after (if fits then held else too_long) (begun_exclusive start more))
grows_within room start more true h = (tt, h refl)
grows_within room start more false h = (tt, omega arith)

longer : (room : ℕ) (bytes : List ℕ) (byte : ℕ) → nat_le (suc (length bytes)) room ≡ true → length (bytes ++ byte ∷ []) ≤ room
longer room bytes byte fits = omega (arith, leb-true (suc (length bytes)) room fits, length-append bytes (byte ∷ []))

data_within : (room : ℕ) (begun : Begun) (byte : ℕ) →
    CompletesWithin room (data_step room begun byte) × IsOpenWithin room (begun_after (data_step room begun byte) (grown begun byte))
data_within room (begun_message start status first) byte = (
  message_within room (sort_of status) status first byte,
  message_goes_on room (message_step (sort_of status) status first byte) start status (Some byte),
)
data_within room (begun_exclusive start bytes) byte =
    grows_within room start (bytes ++ byte ∷ []) (nat_le (suc (length bytes)) room) (longer room bytes byte)

parse_data_within : (room : ℕ) (running : Option ℕ) (begun : Option Begun) (offset byte : ℕ)
    → StaysWithin room (parse_data room running begun offset byte)
parse_data_within room running (Some begun) offset byte =
    let both = data_within room begun byte in record { completed = both.0; opened = both.1; same = refl }
parse_data_within room (Some status) None offset byte =
    let both = data_within room (begun_message offset status None) byte in record { completed = both.0; opened = both.1; same = refl }
parse_data_within room None None offset byte = record { completed = tt; opened = omega arith; same = refl }

-- ---- any byte

cut_within : (room : ℕ) (begun : Option Open) (besides : AfterCut) (step : Step) → CompletesWithin room step
    → CompletesWithin room (cut_by begun besides step)
cut_within room None besides step h = h
cut_within room (Some begun) besides step h = tt

ended_within : (room : ℕ) (begun : Option Begun) → IsOpenWithin room begun → CompletesWithin room (ended_by begun)
ended_within room None h = tt
ended_within room (Some (begun_message start status first)) h = tt
ended_within room (Some (begun_exclusive start bytes)) h = h

under_within : (sort : Sort) (parsing : Parsing) (offset byte : ℕ) → IsWithin parsing
    → StaysWithin parsing.room (parse_under sort parsing offset byte)
under_within data_byte parsing offset byte h = parse_data_within parsing.room parsing.running parsing.begun offset byte
under_within (voice_status count) parsing offset byte h =
    record { completed = cut_within parsing.room _ after.Begins held tt; opened = omega arith; same = refl }
under_within exclusive_start parsing offset byte h =
    record { completed = cut_within parsing.room _ after.Begins held tt; opened = omega arith; same = refl }
under_within (common_status count) parsing offset byte h =
    record { completed = cut_within parsing.room _ after.Begins held tt; opened = omega arith; same = refl }
under_within tune_request parsing offset byte h =
    record { completed = cut_within parsing.room _ after.Tune (completes (common system.Tune)) tt; opened = omega arith; same = refl }
under_within undefined_status parsing offset byte h =
    record { completed = cut_within parsing.room _ after.Undefined undefined tt; opened = omega arith; same = refl }
under_within exclusive_end parsing offset byte h =
    record { completed = ended_within parsing.room parsing.begun h; opened = omega arith; same = refl }
under_within real_time_status parsing offset byte h = record { completed = tt; opened = h; same = refl }
under_within undefined_real_time parsing offset byte h = record { completed = tt; opened = h; same = refl }

pub parse_within : (parsing : Parsing) (offset byte : ℕ) → IsWithin parsing → StaysWithin parsing.room (parse parsing offset byte)
parse_within parsing offset byte h = under_within (sort_of byte) parsing offset byte h
