-- What holds of all streams of bytes, which are listed newest first.
use Rattle.std.specs.Prelude.{◌≡◌, ◌<◌, ℕ, List, [], ◌∷◌, ◌++◌, length, reverse, slice_index, false, Some, None, IfSome}
use Rattle.std.specs.List.{AllByRecursion, flat_map}
use Rattle.voice_messages.specs.declared.voice1.System.{System}
use Rattle.midi1_bytes.specs.Messages.{Message, exclusive, IsMessage, spelled, spelled_system}
use Rattle.midi1_bytes.specs.Parsing.{held_over, idle, open_of, parse}
use Rattle.midi1_bytes.specs.RunningStatus.{IsKnownIn, is_running, running_over, without_status, written_behind, written_under}
use Rattle.midi1_bytes.specs.Steps.{ReadsAs, completed_by, step_of}
use Rattle.midi1_bytes.specs.Stream.{Room, open_at_end, open_in, running}

abbrev pub WrittenMessagesAreReadAgain : Type 0
WrittenMessagesAreReadAgain =
    (messages : List Message) (past : List ℕ) → AllByRecursion IsMessage messages →
    open_in None past ≡ None → ReadsAs past (flat_map spelled messages) messages

-- What is written after some last bytes of a stream, by their running status, is read after all its bytes.
pub record StatusesThatRunCanBeLeftOut : Type 0 where
  pub reads : (messages : List Message) (before past : List ℕ) → AllByRecursion IsMessage messages →
      open_in None past ≡ None → IsKnownIn (running before) past →
      ReadsAs past (written_behind before messages) messages
  pub known : (bytes before past : List ℕ) → IsKnownIn (running before) past →
      IsKnownIn (running (bytes ++ before)) (bytes ++ past)
  pub system : (message : System) (past : List ℕ) →
      without_status (running past) (spelled_system message) ≡ spelled_system message
  pub exclusive : (bytes past : List ℕ) →
      without_status (running past) (spelled (exclusive bytes)) ≡ spelled (exclusive bytes)
  pub status : (message : Message) (past : List ℕ) → IsMessage message →
      is_running (running past) (slice_index (without_status (running past) (spelled message)) 0) ≡ false
  pub something : (message : Message) (messages : List Message) (past : List ℕ) →
      0 < length (written_behind past (message ∷ messages))

pub record RunningStatusIsThatOfTheMessages : Type 0 where
  pub after : (messages : List Message) (past : List ℕ) → AllByRecursion IsMessage messages →
      running (reverse (written_behind past messages) ++ past) ≡ running_over messages (running past)
  pub written : (messages : List Message) (past : List ℕ) → AllByRecursion IsMessage messages →
      written_behind past messages ≡ written_under (running past) messages

abbrev pub CompletedMessagesAreInRange : Type 0
CompletedMessagesAreInRange =
    (room : Room) (past : List ℕ) (byte : ℕ) → IfSome (completed_by (step_of room past byte)) IsMessage

pub record ParsedBytesAreTheDefinition : Type 0 where
  pub new : (room : ℕ) → held_over room [] ≡ idle room
  pub step : (room : ℕ) (past : List ℕ) (byte : ℕ) →
      (parse (held_over room past) (length past) byte).step ≡ step_of (Some room) past byte
  pub after : (room : ℕ) (past : List ℕ) (byte : ℕ) →
      (parse (held_over room past) (length past) byte).after ≡ held_over room (byte ∷ past)
  pub end : (room : ℕ) (past : List ℕ) → open_of (held_over room past) ≡ open_at_end (Some room) past
