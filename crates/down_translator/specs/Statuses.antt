-- Messages that are written with all their status bytes, or under running status.
use Rattle.std.specs.Prelude.{ℕ, List, [], ◌∷◌, ◌++◌}
use Rattle.midi1_bytes.specs.Messages.{Message, spelled}
use Rattle.midi1_bytes.specs.RunningStatus.{running_after, without_status}
use Rattle.down_translator.specs.declared.statuses.Statuses.{Statuses}
use Rattle.down_translator.specs.declared.statuses.Statuses.TheVariants.{All, Changes}

-- what is written of a message
abbrev pub written_in : Statuses → Message → List ℕ
written_in All message = spelled message
written_in (Changes in_force) message = without_status in_force (spelled message)

-- which status bytes are written after it
abbrev pub statuses_after : Message → Statuses → Statuses
statuses_after message All = All
statuses_after message (Changes in_force) = Changes (running_after message in_force)

-- the same of messages, the first of which comes first
abbrev pub written_all : Statuses → List Message → List ℕ
written_all statuses [] = []
written_all statuses (message ∷ messages) = written_in statuses message ++ written_all (statuses_after message statuses) messages

abbrev pub statuses_over : List Message → Statuses → Statuses
statuses_over [] statuses = statuses
statuses_over (message ∷ messages) statuses = statuses_over messages (statuses_after message statuses)
