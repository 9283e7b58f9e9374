-- What the calls of the packer of USB-MIDI events answer, by what the handle holds.
use Rattle.std.specs.Prelude.{◌≡◌, nat_lt, ℕ, Bool, true, false, List, Option, Some, None}
use Rattle.midi1_bytes.specs.Parsing.{idle, open_of}
use Rattle.usb_midi1.specs.Held.{PackerState}
use Rattle.c_answers.specs.Numbers.{number_of}
use Rattle.c_answers.specs.declared.block.Block.{Block}
use Rattle.c_answers.specs.declared.line.ListingLine.{ListingLine}
use Rattle.c_answers.specs.declared.outcome.ByteOutcome.{ByteOutcome}
use Rattle.c_answers.specs.declared.status.Status.TheVariants as statuses
use Rattle.c_handles.specs.declared.engine.Engine.{Engine}
use Rattle.c_handles.specs.declared.engine.Engine.TheVariants as engine
use Rattle.c_streams.specs.Readers as readers
use Rattle.c_streams.specs.Readers.{IsEnd}
use Rattle.c_streams.specs.Usb.{events}
use Rattle.larboardyuzu_c.specs.Held.{is_room, Opens}
use Rattle.larboardyuzu_c.specs.ParserCalls.{IsBlockUntaken, IsUntaken}

-- the handle holds a packer of which `IsSo` holds
abbrev pub HoldsUsb : Option Engine → (PackerState → Type 0) → Type 0
HoldsUsb (Some (engine.Usb packer)) IsSo = IsSo packer
HoldsUsb _ IsSo = ⊥

-- a packer for a stream that has had no byte yet
abbrev pub new_packer : ℕ → ℕ → PackerState
new_packer cable room = record { cable = cable; parsing = idle room }

abbrev pub opens : Bool → Bool → Option Engine → Engine → ℕ → Option Engine → Type 0
opens false is_cable before fresh status after = (status ≡ number_of statuses.BadRoom) × (after ≡ before)
opens true false before fresh status after = (status ≡ number_of statuses.BadGroup) × (after ≡ before)
opens true true before fresh status after = Opens before fresh status after

abbrev pub IsOpened : Option Engine → ℕ → ℕ → ℕ → Option Engine → Type 0
IsOpened before cable room status after = opens (is_room room) (nat_lt cable 16) before (engine.Usb (new_packer cable room)) status after

abbrev pub IsByteTaken : Option Engine → ℕ → ℕ → List ℕ → ℕ → ByteOutcome → List ℕ → Option Engine → Type 0
IsByteTaken None byte offset old status outcome new after = IsUntaken statuses.HandleClosed old status outcome new × (after ≡ None)
IsByteTaken (Some (engine.Usb packer)) byte offset old status outcome new after =
    HoldsUsb after (λ held. readers.IsByteTaken events packer byte offset old status outcome new held)
IsByteTaken (Some other) byte offset old status outcome new after =
    IsUntaken statuses.OtherKind old status outcome new × (after ≡ Some other)

abbrev pub AreBytesTaken : Option Engine → ℕ → List ℕ → List ℕ → List ByteOutcome → ℕ → Block → List ℕ → List ByteOutcome → Option Engine
    → Type 0
AreBytesTaken None offset bytes old old_items status block new items after =
    IsBlockUntaken statuses.HandleClosed old old_items status block new items × (after ≡ None)
AreBytesTaken (Some (engine.Usb packer)) offset bytes old old_items status block new items after =
    HoldsUsb after (λ held. readers.AreBytesTaken events packer offset bytes old old_items status block new items held)
AreBytesTaken (Some other) offset bytes old old_items status block new items after =
    IsBlockUntaken statuses.OtherKind old old_items status block new items × (after ≡ Some other)

abbrev pub HasEnd : Option Engine → ℕ → ListingLine → ListingLine → Type 0
HasEnd None status old new = (status ≡ number_of statuses.HandleClosed) × (new ≡ old)
HasEnd (Some (engine.Usb packer)) status old new = IsEnd (open_of packer.parsing) status old new
HasEnd (Some other) status old new = (status ≡ number_of statuses.OtherKind) × (new ≡ old)

-- the handle holds again what it held just after it was opened with the same arguments
abbrev pub IsReset : Option Engine → ℕ → Option Engine → Type 0
IsReset None status after = (status ≡ number_of statuses.HandleClosed) × (after ≡ None)
IsReset (Some (engine.Usb packer)) status after =
    (status ≡ number_of statuses.Done) × (after ≡ Some (engine.Usb (new_packer packer.cable packer.parsing.room)))
IsReset (Some other) status after = (status ≡ number_of statuses.OtherKind) × (after ≡ Some other)
