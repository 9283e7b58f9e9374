-- What the calls of the translator up answer, by what the handle holds.
use Rattle.std.specs.Prelude.{◌≡◌, nat_lt, ℕ, Bool, true, false, List, Option, Some, None}
use Rattle.up_translator.specs.Held.{UpState, new_up}
use Rattle.c_answers.specs.Numbers.{number_of}
use Rattle.c_answers.specs.declared.line.ListingLine.{ListingLine}
use Rattle.c_answers.specs.declared.status.Status.{Status}
use Rattle.c_answers.specs.declared.status.Status.TheVariants as statuses
use Rattle.c_handles.specs.declared.engine.Engine.{Engine}
use Rattle.c_handles.specs.declared.engine.Engine.TheVariants as engine
use Rattle.c_translators.specs.Up as up
use Rattle.c_answers.specs.Blocks.{nothing_taken}
use Rattle.c_answers.specs.Outcomes.{no_outcome}
use Rattle.c_translators.specs.ByteBlocks.{AreTaken}
use Rattle.c_answers.specs.declared.block.Block.{Block}
use Rattle.c_answers.specs.declared.outcome.ByteOutcome.{ByteOutcome}
use Rattle.larboardyuzu_c.specs.Flags.{are_of_up, has_paired}
use Rattle.larboardyuzu_c.specs.Held.{HoldsUp, is_room, Opens}

-- by whether the room and the group are in range, and the call has the flags
abbrev pub opens : Bool → Bool → Bool → Option Engine → Engine → ℕ → Option Engine → Type 0
opens false is_group are_known before fresh status after = (status ≡ number_of statuses.BadRoom) × (after ≡ before)
opens true false are_known before fresh status after = (status ≡ number_of statuses.BadGroup) × (after ≡ before)
opens true true false before fresh status after = (status ≡ number_of statuses.BadFlags) × (after ≡ before)
opens true true true before fresh status after = Opens before fresh status after

abbrev pub IsOpened : Option Engine → ℕ → ℕ → ℕ → ℕ → Option Engine → Type 0
IsOpened before group room flags status after =
    opens (is_room room) (nat_lt group 16) (are_of_up flags) before (engine.Up (new_up (has_paired flags) room group)) status after

-- nothing is taken
abbrev pub IsUntaken : Status → List ℕ → ℕ → ByteOutcome → List ℕ → Type 0
IsUntaken why old status outcome new = (status ≡ number_of why) × (outcome ≡ no_outcome) × (new ≡ old)

abbrev pub IsAnswered : Option Engine → ℕ → ℕ → List ℕ → ℕ → ByteOutcome → List ℕ → Option Engine → Type 0
IsAnswered None byte offset old status outcome new after = IsUntaken statuses.HandleClosed old status outcome new × (after ≡ None)
IsAnswered (Some (engine.Up state)) byte offset old status outcome new after =
    HoldsUp after (λ held. up.IsAnswered state byte offset old status outcome new held)
IsAnswered (Some other) byte offset old status outcome new after =
    IsUntaken statuses.OtherKind old status outcome new × (after ≡ Some other)

-- by whether the byte is taken at once; if it isn't, only the outcome changes
abbrev pub IsDirect : Bool → Engine → ℕ → ℕ → List ℕ → ByteOutcome → List ℕ → Engine → Type 0
IsDirect true old_engine byte offset old outcome new after =
    IsAnswered (Some old_engine) byte offset old (number_of statuses.Done) outcome new (Some after)
IsDirect false old_engine byte offset old outcome new after = (new ≡ old) × (after ≡ old_engine)

-- no byte is taken
abbrev pub AreUntaken : Status → List ℕ → List ByteOutcome → ℕ → Block → List ℕ → List ByteOutcome → Type 0
AreUntaken why old old_outcomes status block new outcomes =
    (status ≡ number_of why) × (block ≡ nothing_taken) × (new ≡ old) × (outcomes ≡ old_outcomes)

abbrev pub AreAnswered : Option Engine → ℕ → List ℕ → List ℕ → List ByteOutcome → ℕ → Block → List ℕ → List ByteOutcome → Option Engine
    → Type 0
AreAnswered None offset bytes old old_outcomes status block new outcomes after =
    AreUntaken statuses.HandleClosed old old_outcomes status block new outcomes × (after ≡ None)
AreAnswered (Some (engine.Up state)) offset bytes old old_outcomes status block new outcomes after =
    HoldsUp after (λ held. AreTaken state offset bytes old old_outcomes status block new outcomes held)
AreAnswered (Some other) offset bytes old old_outcomes status block new outcomes after =
    AreUntaken statuses.OtherKind old old_outcomes status block new outcomes × (after ≡ Some other)

abbrev pub HasEnd : Option Engine → ListingLine → ℕ → ListingLine → Type 0
HasEnd None old status new = (status ≡ number_of statuses.HandleClosed) × (new ≡ old)
HasEnd (Some (engine.Up state)) old status new = up.HasEnd state old status new
HasEnd (Some other) old status new = (status ≡ number_of statuses.OtherKind) × (new ≡ old)

-- what a handle holds that is opened with the arguments of this translator
abbrev pub IsNew : UpState → UpState → Type 0
IsNew state held = held ≡ new_up state.holding.paired state.parsing.room state.group

abbrev pub IsReset : Option Engine → ℕ → Option Engine → Type 0
IsReset None status after = (status ≡ number_of statuses.HandleClosed) × (after ≡ None)
IsReset (Some (engine.Up state)) status after = HoldsUp after (IsNew state) × (status ≡ number_of statuses.Done)
IsReset (Some other) status after = (status ≡ number_of statuses.OtherKind) × (after ≡ Some other)
