-- What the calls of the parser answer, by what the handle holds.
use Rattle.std.specs.Prelude.{◌≡◌, ℕ, List, Option, Some, None}
use Rattle.midi1_bytes.specs.Parsing.{Parsing, idle, open_of}
use Rattle.c_answers.specs.Blocks.{nothing_taken}
use Rattle.c_answers.specs.Numbers.{number_of}
use Rattle.c_answers.specs.Outcomes.{no_outcome}
use Rattle.c_answers.specs.declared.block.Block.{Block}
use Rattle.c_answers.specs.declared.line.ListingLine.{ListingLine}
use Rattle.c_answers.specs.declared.outcome.ByteOutcome.{ByteOutcome}
use Rattle.c_answers.specs.declared.status.Status.{Status}
use Rattle.c_answers.specs.declared.status.Status.TheVariants as statuses
use Rattle.c_handles.specs.declared.engine.Engine.{Engine}
use Rattle.c_handles.specs.declared.engine.Engine.TheVariants as engine
use Rattle.c_streams.specs.Parser.{messages}
use Rattle.c_streams.specs.Readers as readers
use Rattle.c_streams.specs.Readers.{IsEnd}
use Rattle.larboardyuzu_c.specs.Held.{is_room, opens_in_range}

-- the handle holds a parser of which `IsSo` holds
abbrev pub HoldsParser : Option Engine → (Parsing → Type 0) → Type 0
HoldsParser (Some (engine.Parser parsing)) IsSo = IsSo parsing
HoldsParser _ IsSo = ⊥

abbrev pub IsOpened : Option Engine → ℕ → ℕ → Option Engine → Type 0
IsOpened before room status after = opens_in_range (is_room room) before (engine.Parser (idle room)) status after

-- ---- a handle that is closed or of another kind

-- no byte is looked at
abbrev pub IsUntaken : Status → List ℕ → ℕ → ByteOutcome → List ℕ → Type 0
IsUntaken why old status outcome new = (status ≡ number_of why) × (outcome ≡ no_outcome) × (new ≡ old)

-- no item of a block is taken
abbrev pub IsBlockUntaken : {Item : Type 0} → Status → List ℕ → List Item → ℕ → Block → List ℕ → List Item → Type 0
IsBlockUntaken why old old_items status block new items =
    (status ≡ number_of why) × (block ≡ nothing_taken) × (new ≡ old) × (items ≡ old_items)

-- ---- by what the handle holds

abbrev pub IsByteTaken : Option Engine → ℕ → ℕ → List ℕ → ℕ → ByteOutcome → List ℕ → Option Engine → Type 0
IsByteTaken None byte offset old status outcome new after = IsUntaken statuses.HandleClosed old status outcome new × (after ≡ None)
IsByteTaken (Some (engine.Parser parsing)) byte offset old status outcome new after =
    HoldsParser after (λ held. readers.IsByteTaken messages parsing byte offset old status outcome new held)
IsByteTaken (Some other) byte offset old status outcome new after =
    IsUntaken statuses.OtherKind old status outcome new × (after ≡ Some other)

abbrev pub AreBytesTaken : Option Engine → ℕ → List ℕ → List ℕ → List ByteOutcome → ℕ → Block → List ℕ → List ByteOutcome → Option Engine
    → Type 0
AreBytesTaken None offset bytes old old_items status block new items after =
    IsBlockUntaken statuses.HandleClosed old old_items status block new items × (after ≡ None)
AreBytesTaken (Some (engine.Parser parsing)) offset bytes old old_items status block new items after =
    HoldsParser after (λ held. readers.AreBytesTaken messages parsing offset bytes old old_items status block new items held)
AreBytesTaken (Some other) offset bytes old old_items status block new items after =
    IsBlockUntaken statuses.OtherKind old old_items status block new items × (after ≡ Some other)

abbrev pub HasEnd : Option Engine → ℕ → ListingLine → ListingLine → Type 0
HasEnd None status old new = (status ≡ number_of statuses.HandleClosed) × (new ≡ old)
HasEnd (Some (engine.Parser parsing)) status old new = IsEnd (open_of parsing) status old new
HasEnd (Some other) status old new = (status ≡ number_of statuses.OtherKind) × (new ≡ old)

-- the handle holds again what it held just after it was opened with the same arguments
abbrev pub IsReset : Option Engine → ℕ → Option Engine → Type 0
IsReset None status after = (status ≡ number_of statuses.HandleClosed) × (after ≡ None)
IsReset (Some (engine.Parser parsing)) status after =
    (status ≡ number_of statuses.Done) × (after ≡ Some (engine.Parser (idle parsing.room)))
IsReset (Some other) status after = (status ≡ number_of statuses.OtherKind) × (after ≡ Some other)
