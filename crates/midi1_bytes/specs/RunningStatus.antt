-- Messages written under running status (MIDI 1.0 Detailed Specification, running status): a status byte that
-- equals the running status is left out.
use Rattle.std.specs.Prelude.{ℕ, ◌≡◌, ◌==◌, if◌then◌else◌, Bool, false, List, [], ◌∷◌, ◌++◌, reverse, slice_index, Option, Some, None}
use Rattle.voice_messages.specs.declared.voice1.Voice1.{Voice1}
use Rattle.midi1_bytes.specs.Messages.{Message, voice, common, exclusive, real_time, spelled, spelled_voice}
use Rattle.midi1_bytes.specs.Stream.{running}

-- whether a byte equals the running status
abbrev pub is_running : Option ℕ → ℕ → Bool
is_running None byte = false
is_running (Some status) byte = status == byte

-- the bytes of a message, less its status byte if that equals the running status
abbrev pub without_status : Option ℕ → List ℕ → List ℕ
without_status in_force [] = []
without_status in_force (status ∷ bytes) = if is_running in_force status then bytes else status ∷ bytes

-- Messages written after these bytes, which are newest first. A status byte is left out that equals the
-- running status of those bytes followed by what is written of the messages before it.
abbrev pub written_behind : List ℕ → List Message → List ℕ
written_behind past [] = []
written_behind past (message ∷ messages) =
    without_status (running past) (spelled message)
    ++ written_behind (reverse (without_status (running past) (spelled message)) ++ past) messages

-- ---- by the running status alone

-- the status byte of a voice message
abbrev pub status_of : Voice1 → ℕ
status_of message = slice_index (spelled_voice message) 0

-- A voice message's status becomes the running status; system common messages and exclusives end it; Real
-- Time leaves it.
abbrev pub running_after : Message → Option ℕ → Option ℕ
running_after (voice message) in_force = Some (status_of message)
running_after (common message) in_force = None
running_after (exclusive bytes) in_force = None
running_after (real_time message) in_force = in_force

-- after some messages, the first of which comes first
abbrev pub running_over : List Message → Option ℕ → Option ℕ
running_over [] in_force = in_force
running_over (message ∷ messages) in_force = running_over messages (running_after message in_force)

abbrev pub written_under : Option ℕ → List Message → List ℕ
written_under in_force [] = []
written_under in_force (message ∷ messages) =
    without_status in_force (spelled message) ++ written_under (running_after message in_force) messages

-- ---- what is known of the bytes of a stream

-- a running status that is known of some last bytes is that of all
abbrev pub IsKnownIn : Option ℕ → List ℕ → Type 0
IsKnownIn in_force past = (status : ℕ) → in_force ≡ Some status → running past ≡ Some status
