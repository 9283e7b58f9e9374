-- What a running state of the bytes of a MIDI 1.0 stream answers a caller.
use Rattle.std.specs.Prelude.{◌≡◌, ◌≢◌, ℕ, List, [], ◌∷◌, Option, Some, None}
use Rattle.midi1_bytes.specs.Messages.{Message, voice}
use Rattle.midi1_bytes.specs.Parsing.{Parsing, parse}
use Rattle.midi1_bytes.specs.Steps.{Step, completed_by, too_long}
use Rattle.midi_meaning.specs.Messages.{as_they_come}
use Rattle.voice_state.specs.Kept.{KeptGroup}
use Rattle.voice_state.specs.Rooms.{GroupIs, IsGroupFull1}
use Rattle.voice_state.specs.States.{States, after_message}
use Rattle.c_answers.specs.Blocks.{AreTakenAlone, Taking}
use Rattle.c_answers.specs.Numbers.{number_of}
use Rattle.c_answers.specs.declared.block.Block.{Block}
use Rattle.c_answers.specs.declared.status.Status.{Status}
use Rattle.c_answers.specs.declared.status.Status.TheVariants as statuses
use Rattle.c_voice_state.specs.Kept.{Changes, alone}

-- what is kept of the groups, and what the parser holds
pub record ByteKept : Type 0 where
  pub kept : List KeptGroup
  pub parsing : Parsing

-- the states of a stream after a message, if a byte completes one; a stream has no groups, so the message is
-- in group 0 (own rule)
abbrev pub after_completed : Option Message → States → States
after_completed None states = states
after_completed (Some message) states = after_message 0 message states

-- the message that a byte completes, if it completes one, adds to a list that is full
abbrev pub IsFull : Option Message → List KeptGroup → Type 0
IsFull (Some (voice message)) kept = GroupIs kept 0 (IsGroupFull1 message)
IsFull _ kept = ⊥

-- what a byte does is kept; the message isn't if it adds to a full list, or there isn't enough memory for it
abbrev pub takes_step : Step → List KeptGroup → ℕ → List KeptGroup → Type 0
takes_step too_long old status new = (status ≡ number_of statuses.ExclusiveTooLong) × (new ≡ old)
takes_step step old status new =
    Changes as_they_come (after_completed (completed_by step)) (IsFull (completed_by step) old) old status new

abbrev pub IsByteTaken : ByteKept → ℕ → ℕ → ByteKept → Type 0
IsByteTaken old byte status new =
    (new.parsing ≡ (parse old.parsing 0 byte).after) × takes_step (parse old.parsing 0 byte).step old.kept status new.kept

-- ---- a block of bytes

-- one byte is taken
abbrev pub TakesByte : ByteKept → List ℕ → ByteKept → Type 0
TakesByte held own after = (byte : ℕ) × (own ≡ byte ∷ []) × IsByteTaken held byte (number_of statuses.Done) after

-- or refused
abbrev pub RefusesByte : ByteKept → List ℕ → Status → ByteKept → Type 0
RefusesByte held own why after = (byte : ℕ) × (own ≡ byte ∷ []) × (why ≢ statuses.Done) × IsByteTaken held byte (number_of why) after

abbrev pub bytes_in : Taking ByteKept (Unit {0})
bytes_in = alone (λ byte. 1) TakesByte RefusesByte

abbrev pub AreBytesTaken : ByteKept → List ℕ → ℕ → Block → ByteKept → Type 0
AreBytesTaken old bytes status block new = AreTakenAlone bytes_in old bytes status block new
