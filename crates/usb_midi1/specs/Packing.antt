-- The events of the messages of a MIDI 1.0 stream, each with its status byte written. `past` is the bytes so
-- far, newest first.
use Rattle.std.specs.Prelude.{ℕ, ◌+◌, ◌*◌, ◌/◌, List, [], ◌∷◌, ◌++◌, slice_index, Option, Some, None}
use Rattle.voice_messages.specs.declared.voice1.System.{System}
use Rattle.voice_messages.specs.declared.voice1.System.TheVariants as system
use Rattle.midi1_bytes.specs.Answers.{framed}
use Rattle.midi1_bytes.specs.Messages.{Message, voice, common, exclusive, real_time, spelled_system, spelled_voice}
use Rattle.midi1_bytes.specs.Steps.{completed_by, step_of}
use Rattle.midi1_bytes.specs.Stream.{Room}

-- the four bytes of an event that carries these, at most three; the places after them are 0
abbrev pub event : ℕ → ℕ → List ℕ → List ℕ
event cable code bytes = (cable * 16 + code) ∷ slice_index bytes 0 ∷ slice_index bytes 1 ∷ slice_index bytes 2 ∷ []

-- ---- an exclusive, cut every three bytes

-- the code of three bytes before these
abbrev pub code_before : List ℕ → ℕ
code_before [] = 7
code_before (byte ∷ more) = 4

-- the event of its first bytes
abbrev pub first_event : ℕ → List ℕ → Option (List ℕ)
first_event cable [] = None
first_event cable (first ∷ []) = Some (event cable 5 (first ∷ []))
first_event cable (first ∷ second ∷ []) = Some (event cable 6 (first ∷ second ∷ []))
first_event cable (first ∷ second ∷ third ∷ more) = Some (event cable (code_before more) (first ∷ second ∷ third ∷ []))

-- all its events, in order
abbrev pub exclusive_events : ℕ → List ℕ → List (List ℕ)
exclusive_events cable [] = []
exclusive_events cable (first ∷ []) = event cable 5 (first ∷ []) ∷ []
exclusive_events cable (first ∷ second ∷ []) = event cable 6 (first ∷ second ∷ []) ∷ []
exclusive_events cable (first ∷ second ∷ third ∷ more) =
    event cable (code_before more) (first ∷ second ∷ third ∷ []) ∷ exclusive_events cable more

-- ---- any message

-- the code of a system message
abbrev pub system_code : System → ℕ
system_code (system.Quarter value) = 2
system_code (system.Position value) = 3
system_code (system.Song value) = 2
system_code system.Tune = 5
system_code _ = 15

-- each message is one event, except that an exclusive has several
abbrev pub message_events : ℕ → Message → List (List ℕ)
message_events cable (voice message) = event cable (slice_index (spelled_voice message) 0 / 16) (spelled_voice message) ∷ []
message_events cable (common message) = event cable (system_code message) (spelled_system message) ∷ []
message_events cable (real_time message) = event cable (system_code message) (spelled_system message) ∷ []
message_events cable (exclusive bytes) = exclusive_events cable (framed bytes)

-- the events of the message that is completed, if one is
abbrev pub events_by : ℕ → Option Message → List (List ℕ)
events_by cable None = []
events_by cable (Some message) = message_events cable message

-- the events for one more byte
abbrev pub events_of : Room → ℕ → List ℕ → ℕ → List (List ℕ)
events_of room cable past byte = events_by cable (completed_by (step_of room past byte))

-- the events for all bytes, in the order in which they come
abbrev pub stream_events : Room → ℕ → List ℕ → List (List ℕ)
stream_events room cable [] = []
stream_events room cable (byte ∷ past) = stream_events room cable past ++ events_of room cable past byte
