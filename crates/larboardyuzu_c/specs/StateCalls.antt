-- What the calls of the running state answer, by what the handle holds.
use Rattle.std.specs.Prelude.{◌≡◌, ◌==◌, ◌&&◌, ◌||◌, nat_le, ℕ, Bool, true, false, List, Option, Some, None, MatchOption}
use Rattle.midi1_bytes.specs.Parsing.{idle}
use Rattle.sysex_groups.specs.Table.{empty_table}
use Rattle.midi_meaning.specs.Messages.{as_they_come, raised}
use Rattle.voice_state.specs.Kept.{Keeps}
use Rattle.voice_state.specs.Rooms.{HasRoom, KeepsAllRooms}
use Rattle.voice_state.specs.States.{first_states}
use Rattle.c_answers.specs.Blocks.{nothing_taken}
use Rattle.c_answers.specs.Numbers.{number_of}
use Rattle.c_answers.specs.declared.block.Block.{Block}
use Rattle.c_answers.specs.declared.status.Status.{Status}
use Rattle.c_answers.specs.declared.status.Status.TheVariants as statuses
use Rattle.c_handles.specs.declared.engine.Engine.{Engine}
use Rattle.c_handles.specs.declared.engine.Engine.TheVariants as engine
use Rattle.c_voice_state.specs.Facts.{HasFacts, IsUntold}
use Rattle.c_voice_state.specs.Bytes as bytes
use Rattle.c_voice_state.specs.Bytes.{ByteKept}
use Rattle.c_voice_state.specs.Kept as packets
use Rattle.c_voice_state.specs.Kept.{StateKept}
use Rattle.c_voice_state.specs.declared.fact_numbers.FactNumbers.{FactNumbers}
use Rattle.larboardyuzu_c.specs.Held.{is_room}

-- the handle holds a state of packets of which `IsSo` holds
abbrev pub HoldsPacketState : Option Engine → (StateKept → Type 0) → Type 0
HoldsPacketState (Some (engine.PacketState state)) IsSo = IsSo state
HoldsPacketState _ IsSo = ⊥

-- the same of a state of bytes
abbrev pub HoldsByteState : Option Engine → (ByteKept → Type 0) → Type 0
HoldsByteState (Some (engine.ByteState state)) IsSo = IsSo state
HoldsByteState _ IsSo = ⊥

-- the limit of an exclusive, and the most notes and mode messages, and parameters of a kind, of a channel
pub record Asked : Type 0 where
  pub room : ℕ
  pub notes : ℕ
  pub params : ℕ

abbrev pub is_asked : Asked → Bool
is_asked asked = is_room asked.room && nat_le asked.notes 1048576 && nat_le asked.params 16384

-- the state before the first byte or the first packet
abbrev pub IsNew : Bool → Asked → Engine → Type 0
IsNew true asked (engine.ByteState state) =
    (state.parsing ≡ idle asked.room) × Keeps as_they_come state.kept (first_states as_they_come)
    × HasRoom asked.notes asked.params state.kept
IsNew false asked (engine.PacketState state) =
    (state.exclusives ≡ empty_table asked.room) × Keeps raised state.kept (first_states raised)
    × HasRoom asked.notes asked.params state.kept
IsNew _ asked _ = ⊥

abbrev pub IsMade : Bool → Asked → ℕ → Option Engine → Type 0
IsMade is_of_bytes asked status after =
    MatchOption after (status ≡ number_of statuses.NoMemory) (λ held. (status ≡ number_of statuses.Done) × IsNew is_of_bytes asked held)

-- the flag of a state of bytes
abbrev pub of_bytes : ℕ
of_bytes = 4

-- the only flag that the call has, or none
abbrev pub is_flags : ℕ → Bool
is_flags flags = flags == 0 || flags == of_bytes

-- nothing is opened
abbrev pub IsUnopened : Status → Option Engine → ℕ → Option Engine → Type 0
IsUnopened why before status after = (status ≡ number_of why) × (after ≡ before)

-- by whether the numbers and the flags are in range
abbrev pub opens : Bool → Bool → Option Engine → Asked → ℕ → ℕ → Option Engine → Type 0
opens false known before asked flags status after = IsUnopened statuses.BadRoom before status after
opens true false before asked flags status after = IsUnopened statuses.BadFlags before status after
opens true true (Some held) asked flags status after = IsUnopened statuses.AlreadyOpen (Some held) status after
opens true true None asked flags status after = IsMade (flags == of_bytes) asked status after

abbrev pub IsOpened : Option Engine → Asked → ℕ → ℕ → Option Engine → Type 0
IsOpened before asked flags status after = opens (is_asked asked) (is_flags flags) before asked flags status after

abbrev pub IsPacketTaken : Option Engine → List ℕ → ℕ → Option Engine → Type 0
IsPacketTaken None words status after = (status ≡ number_of statuses.HandleClosed) × (after ≡ None)
IsPacketTaken (Some (engine.PacketState state)) words status after =
    HoldsPacketState after (λ held. packets.IsPacketTaken state words status held)
IsPacketTaken (Some other) words status after = (status ≡ number_of statuses.OtherKind) × (after ≡ Some other)

abbrev pub IsByteTaken : Option Engine → ℕ → ℕ → Option Engine → Type 0
IsByteTaken None byte status after = (status ≡ number_of statuses.HandleClosed) × (after ≡ None)
IsByteTaken (Some (engine.ByteState state)) byte status after = HoldsByteState after (λ held. bytes.IsByteTaken state byte status held)
IsByteTaken (Some other) byte status after = (status ≡ number_of statuses.OtherKind) × (after ≡ Some other)

-- no item of a block is taken
abbrev pub IsUntaken : Status → ℕ → Block → Type 0
IsUntaken why status block = (status ≡ number_of why) × (block ≡ nothing_taken)

abbrev pub ArePacketsTaken : Option Engine → List ℕ → ℕ → Block → Option Engine → Type 0
ArePacketsTaken None words status block after = IsUntaken statuses.HandleClosed status block × (after ≡ None)
ArePacketsTaken (Some (engine.PacketState state)) words status block after =
    HoldsPacketState after (λ held. packets.ArePacketsTaken state words status block held)
ArePacketsTaken (Some other) words status block after = IsUntaken statuses.OtherKind status block × (after ≡ Some other)

abbrev pub AreBytesTaken : Option Engine → List ℕ → ℕ → Block → Option Engine → Type 0
AreBytesTaken None input status block after = IsUntaken statuses.HandleClosed status block × (after ≡ None)
AreBytesTaken (Some (engine.ByteState state)) input status block after =
    HoldsByteState after (λ held. bytes.AreBytesTaken state input status block held)
AreBytesTaken (Some other) input status block after = IsUntaken statuses.OtherKind status block × (after ≡ Some other)

-- the facts of a group and a channel, of what the state keeps
abbrev pub HasTold : Option Engine → ℕ → ℕ → List FactNumbers → ℕ → ℕ → ℕ → List FactNumbers → Type 0
HasTold None group channel old status written need new = IsUntold statuses.HandleClosed old status written need new
HasTold (Some (engine.PacketState state)) group channel old status written need new =
    HasFacts state.kept group channel old status written need new
HasTold (Some (engine.ByteState state)) group channel old status written need new =
    HasFacts state.kept group channel old status written need new
HasTold (Some other) group channel old status written need new = IsUntold statuses.OtherKind old status written need new

-- the state is empty, with the same limit of an exclusive and the same room
abbrev pub IsEmptied : Engine → Engine → Type 0
IsEmptied (engine.PacketState old) (engine.PacketState new) =
    (new.exclusives ≡ empty_table old.exclusives.room) × Keeps raised new.kept (first_states raised) × KeepsAllRooms old.kept new.kept
IsEmptied (engine.ByteState old) (engine.ByteState new) =
    (new.parsing ≡ idle old.parsing.room) × Keeps as_they_come new.kept (first_states as_they_come) × KeepsAllRooms old.kept new.kept
IsEmptied _ new = ⊥

-- the state then, of an engine that is a state
abbrev pub resets : Engine → ℕ → Option Engine → Type 0
resets (engine.PacketState state) status after =
    MatchOption after ⊥ (λ held. (status ≡ number_of statuses.Done) × IsEmptied (engine.PacketState state) held)
resets (engine.ByteState state) status after =
    MatchOption after ⊥ (λ held. (status ≡ number_of statuses.Done) × IsEmptied (engine.ByteState state) held)
resets other status after = (status ≡ number_of statuses.OtherKind) × (after ≡ Some other)

abbrev pub IsReset : Option Engine → ℕ → Option Engine → Type 0
IsReset None status after = (status ≡ number_of statuses.HandleClosed) × (after ≡ None)
IsReset (Some held) status after = resets held status after
