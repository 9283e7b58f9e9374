-- What some bytes, listed oldest first, begin with, if a parser takes it at once.
use Rattle.std.specs.Prelude.{◌≡◌, ℕ, ◌-◌, ◌<◌, ◌≤◌, nat_lt, ◌&&◌, if◌then◌else◌, List, [], ◌∷◌, length, suc}
use Rattle.std.specs.Prelude.{take, Option, Some, None, is_none}
use Rattle.voice_messages.specs.declared.voice1.Voice1.{Voice1}
use Rattle.midi1_bytes.specs.declared.spoken.VoiceBytes.{VoiceBytes}
use Rattle.midi1_bytes.specs.Messages.{voice, voice_of}
use Rattle.midi1_bytes.specs.Parsing.{Begun, begun_message, begun_exclusive, Parsing, quiet, AreMessage}
use Rattle.midi1_bytes.specs.Sorts.{one, two, Sort, data_byte, voice_status, sort_of}
use Rattle.midi1_bytes.specs.Spoken.{voice_in}

-- ---- a voice message

-- the state after a voice message of this status
abbrev pub after_voice : Parsing → ℕ → Parsing
after_voice parsing status = quiet parsing.room (Some status)

-- Nothing is open, and the first `count` of these bytes are this voice message, wherever they stand in the
-- stream.
pub record IsFront (parsing : Parsing) (bytes : List ℕ) (voice_bytes : VoiceBytes) (count : ℕ) : Type 0 where
  pub nothing_open : parsing.begun ≡ None
  pub some : 0 < count
  pub within : count ≤ length bytes
  pub message : (offset : ℕ) →
      AreMessage (take count bytes) parsing offset (voice (voice_in voice_bytes)) (after_voice parsing voice_bytes.status)

-- The voice message with this status byte of this sort, if these bytes begin with all its data bytes; there are
-- two bytes at least, also of a message of one data byte (own rule).
abbrev pub voice_with : Sort → ℕ → List ℕ → Option Voice1
voice_with (voice_status one) status (only ∷ next ∷ more) =
    if nat_lt only 128 then Some (voice_of one status only []) else None
voice_with (voice_status two) status (first ∷ second ∷ more) =
    if nat_lt first 128 && nat_lt second 128 then Some (voice_of two status second (first ∷ [])) else None
voice_with _ status bytes = None

-- that with the running status
abbrev pub voice_running : Option ℕ → List ℕ → Option Voice1
voice_running None bytes = None
voice_running (Some status) bytes = voice_with (sort_of status) status bytes

-- by the sort of the first byte, which `more` follow
abbrev pub voice_from : Sort → Option ℕ → ℕ → List ℕ → Option Voice1
voice_from data_byte running byte more = voice_running running (byte ∷ more)
voice_from sort running byte more = voice_with sort byte more

-- The voice message with which these bytes begin, under this running status: its status byte and all its data
-- bytes, or all its data bytes if it has the running status. No other byte comes between them.
abbrev pub first_voice : Option ℕ → List ℕ → Option Voice1
first_voice running [] = None
first_voice running (byte ∷ more) = voice_from (sort_of byte) running byte more

-- the same, if nothing is open
abbrev pub front_voice : Parsing → List ℕ → Option Voice1
front_voice parsing bytes = if is_none parsing.begun then first_voice parsing.running bytes else None

-- ---- data bytes of an exclusive

-- how many data bytes these bytes begin with
abbrev pub leading_data : List ℕ → ℕ
leading_data [] = 0
leading_data (byte ∷ more) = if nat_lt byte 128 then suc (leading_data more) else 0

abbrev pub taken_by : ℕ → Option Begun → List ℕ → ℕ
taken_by room None bytes = 0
taken_by room (Some (begun_message start status first)) bytes = 0
taken_by room (Some (begun_exclusive start before)) bytes = leading_data (take (room - length before) bytes)

-- how many of these bytes an open exclusive takes: the data bytes with which they begin, as far as its limit
-- goes
abbrev pub data_taken : Parsing → List ℕ → ℕ
data_taken parsing bytes = taken_by parsing.room parsing.begun bytes
