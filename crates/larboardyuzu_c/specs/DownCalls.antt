-- What the calls of the translator down answer, by what the handle holds.
use Rattle.std.specs.Prelude.{◌≡◌, ℕ, Bool, true, false, List, Option, Some, None}
use Rattle.midi_meaning.specs.Styles.{Style, plain_style, compact_style}
use Rattle.down_translator.specs.Held.{DownState, limit_of, new_down, paired_of, style_of}
use Rattle.c_answers.specs.Numbers.{number_of}
use Rattle.c_answers.specs.declared.status.Status.{Status}
use Rattle.c_answers.specs.declared.status.Status.TheVariants as statuses
use Rattle.c_handles.specs.declared.engine.Engine.{Engine}
use Rattle.c_handles.specs.declared.engine.Engine.TheVariants as engine
use Rattle.c_translators.specs.Down as down
use Rattle.c_answers.specs.Blocks.{nothing_taken}
use Rattle.c_translators.specs.PacketBlocks.{AreTaken}
use Rattle.c_translators.specs.Pieces.{no_piece}
use Rattle.c_answers.specs.declared.block.Block.{Block}
use Rattle.c_translators.specs.declared.piece.Piece.{Piece}
use Rattle.larboardyuzu_c.specs.Flags.{are_of_down, has_compact, has_paired}
use Rattle.larboardyuzu_c.specs.Held.{HoldsDown, Opens, is_room}

abbrev pub style_by : Bool → Style
style_by true = compact_style
style_by false = plain_style

-- what a handle holds that is opened with these flags
abbrev pub new_by : ℕ → ℕ → Engine
new_by room flags = engine.Down (new_down (has_paired flags) (style_by (has_compact flags)) room)

-- by whether the room is in range, and the call has the flags
abbrev pub opens : Bool → Bool → Option Engine → Engine → ℕ → Option Engine → Type 0
opens false are_known before fresh status after = (status ≡ number_of statuses.BadRoom) × (after ≡ before)
opens true false before fresh status after = (status ≡ number_of statuses.BadFlags) × (after ≡ before)
opens true true before fresh status after = Opens before fresh status after

abbrev pub IsOpened : Option Engine → ℕ → ℕ → ℕ → Option Engine → Type 0
IsOpened before room flags status after = opens (is_room room) (are_of_down flags) before (new_by room flags) status after

-- nothing is taken, and nothing written
abbrev pub IsUntaken : Status → List ℕ → ℕ → Piece → List ℕ → Type 0
IsUntaken why old status piece new = (status ≡ number_of why) × (piece ≡ no_piece) × (new ≡ old)

abbrev pub IsAnswered : Option Engine → ℕ → List ℕ → List ℕ → ℕ → Piece → List ℕ → Option Engine → Type 0
IsAnswered None offset words old status piece new after = IsUntaken statuses.HandleClosed old status piece new × (after ≡ None)
IsAnswered (Some (engine.Down state)) offset words old status piece new after =
    HoldsDown after (λ held. down.IsAnswered state offset words old status piece new held)
IsAnswered (Some other) offset words old status piece new after =
    IsUntaken statuses.OtherKind old status piece new × (after ≡ Some other)

-- no packet is taken
abbrev pub AreUntaken : Status → List ℕ → List Piece → ℕ → Block → List ℕ → List Piece → Type 0
AreUntaken why old old_pieces status block new pieces =
    (status ≡ number_of why) × (block ≡ nothing_taken) × (new ≡ old) × (pieces ≡ old_pieces)

abbrev pub AreAnswered : Option Engine → ℕ → List ℕ → List ℕ → List Piece → ℕ → Block → List ℕ → List Piece → Option Engine → Type 0
AreAnswered None offset words old old_pieces status block new pieces after =
    AreUntaken statuses.HandleClosed old old_pieces status block new pieces × (after ≡ None)
AreAnswered (Some (engine.Down state)) offset words old old_pieces status block new pieces after =
    HoldsDown after (λ held. AreTaken state offset words old old_pieces status block new pieces held)
AreAnswered (Some other) offset words old old_pieces status block new pieces after =
    AreUntaken statuses.OtherKind old old_pieces status block new pieces × (after ≡ Some other)

abbrev pub HasBegun : Option Engine → ℕ → ℕ → ℕ → ℕ → Type 0
HasBegun None group old status new = (status ≡ number_of statuses.HandleClosed) × (new ≡ old)
HasBegun (Some (engine.Down state)) group old status new = down.HasBegun state group old status new
HasBegun (Some other) group old status new = (status ≡ number_of statuses.OtherKind) × (new ≡ old)

-- what a handle holds that is opened with the arguments of this translator
abbrev pub IsNew : DownState → DownState → Type 0
IsNew state held = held ≡ new_down (paired_of state) (style_of state) (limit_of state)

abbrev pub IsReset : Option Engine → ℕ → Option Engine → Type 0
IsReset None status after = (status ≡ number_of statuses.HandleClosed) × (after ≡ None)
IsReset (Some (engine.Down state)) status after = HoldsDown after (IsNew state) × (status ≡ number_of statuses.Done)
IsReset (Some other) status after = (status ≡ number_of statuses.OtherKind) × (after ≡ Some other)
