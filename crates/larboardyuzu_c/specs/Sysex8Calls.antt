-- What the calls of the join of 8-bit exclusives answer, by what the handle holds.
use Rattle.std.specs.Prelude.{◌≡◌, ◌&&◌, nat_le, ℕ, Bool, true, false, List, length, Option, Some, None}
use Rattle.sysex8_streams.specs.Table.{Table8, empty_table8}
use Rattle.c_answers.specs.Numbers.{number_of}
use Rattle.c_answers.specs.declared.block.Block.{Block}
use Rattle.c_answers.specs.declared.status.Status.TheVariants as statuses
use Rattle.c_handles.specs.declared.engine.Engine.{Engine}
use Rattle.c_handles.specs.declared.engine.Engine.TheVariants as engine
use Rattle.c_streams.specs.Sysex8.{no_part, ArePacketsJoined, IsBegun, IsPacketJoined}
use Rattle.c_streams.specs.declared.sysex8.JoinedPart.{JoinedPart}
use Rattle.c_answers.specs.declared.status.Status.{Status}
use Rattle.larboardyuzu_c.specs.Held.{Opens}
use Rattle.larboardyuzu_c.specs.ParserCalls.{IsBlockUntaken}

-- the handle holds a join of which `IsSo` holds
abbrev pub HoldsSysex8 : Option Engine → (Table8 → Type 0) → Type 0
HoldsSysex8 (Some (engine.Sysex8 table)) IsSo = IsSo table
HoldsSysex8 _ IsSo = ⊥

-- at least the thirteen bytes that one packet may have
abbrev pub is_room : ℕ → Bool
is_room room = nat_le 13 room && nat_le room 1048576

abbrev pub is_slots : ℕ → Bool
is_slots slots = nat_le 1 slots && nat_le slots 64

abbrev pub opens : Bool → Bool → Option Engine → Engine → ℕ → Option Engine → Type 0
opens false are_slots before fresh status after = (status ≡ number_of statuses.BadRoom) × (after ≡ before)
opens true false before fresh status after = (status ≡ number_of statuses.BadStreams) × (after ≡ before)
opens true true before fresh status after = Opens before fresh status after

abbrev pub IsOpened : Option Engine → ℕ → ℕ → ℕ → Option Engine → Type 0
IsOpened before slots room status after =
    opens (is_room room) (is_slots slots) before (engine.Sysex8 (empty_table8 slots room)) status after

-- nothing is taken
abbrev pub IsUntaken : Status → List ℕ → ℕ → JoinedPart → List ℕ → Type 0
IsUntaken why old status joined new = (status ≡ number_of why) × (joined ≡ no_part) × (new ≡ old)

abbrev pub IsTaken : Option Engine → List ℕ → ℕ → List ℕ → ℕ → JoinedPart → List ℕ → Option Engine → Type 0
IsTaken None words offset old status joined new after = IsUntaken statuses.HandleClosed old status joined new × (after ≡ None)
IsTaken (Some (engine.Sysex8 table)) words offset old status joined new after =
    HoldsSysex8 after (λ held. IsPacketJoined table words offset old status joined new held)
IsTaken (Some other) words offset old status joined new after =
    IsUntaken statuses.OtherKind old status joined new × (after ≡ Some other)

abbrev pub AreTaken : Option Engine → ℕ → List ℕ → List ℕ → List JoinedPart → ℕ → Block → List ℕ → List JoinedPart → Option Engine → Type 0
AreTaken None offset words old old_parts status block new parts after =
    IsBlockUntaken statuses.HandleClosed old old_parts status block new parts × (after ≡ None)
AreTaken (Some (engine.Sysex8 table)) offset words old old_parts status block new parts after =
    HoldsSysex8 after (λ held. ArePacketsJoined table offset words old old_parts status block new parts held)
AreTaken (Some other) offset words old old_parts status block new parts after =
    IsBlockUntaken statuses.OtherKind old old_parts status block new parts × (after ≡ Some other)

abbrev pub HasBegun : Option Engine → ℕ → ℕ → ℕ → ℕ → ℕ → Type 0
HasBegun None group stream status old new = (status ≡ number_of statuses.HandleClosed) × (new ≡ old)
HasBegun (Some (engine.Sysex8 table)) group stream status old new = IsBegun table group stream status old new
HasBegun (Some other) group stream status old new = (status ≡ number_of statuses.OtherKind) × (new ≡ old)

-- the handle holds again what it held just after it was opened with the same arguments
abbrev pub IsReset : Option Engine → ℕ → Option Engine → Type 0
IsReset None status after = (status ≡ number_of statuses.HandleClosed) × (after ≡ None)
IsReset (Some (engine.Sysex8 table)) status after =
    (status ≡ number_of statuses.Done) × (after ≡ Some (engine.Sysex8 (empty_table8 (length table.slots) table.room)))
IsReset (Some other) status after = (status ≡ number_of statuses.OtherKind) × (after ≡ Some other)
