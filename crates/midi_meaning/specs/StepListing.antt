-- What is listed of the bytes of a MIDI 1.0 stream on the way up (own rules).
use Rattle.std.specs.Prelude.{ℕ, ◌&&◌, not, Bool, true, false, if◌then◌else◌, List, []}
use Rattle.std.specs.Prelude.{◌∷◌, ◌++◌, length, map, reverse, Option, Some, None, is_some}
use Rattle.std.specs.Option.{option_map}
use Rattle.voice_messages.specs.declared.voice1.Voice1.{Voice1}
use Rattle.voice_messages.specs.declared.voice1.Voice1.TheVariants as voice1
use Rattle.midi1_bytes.specs.declared.step.CutKind.{CutKind}
use Rattle.midi1_bytes.specs.declared.step.CutKind.TheVariants as kind
use Rattle.midi1_bytes.specs.declared.step.AfterCut.{AfterCut}
use Rattle.midi1_bytes.specs.declared.step.AfterCut.TheVariants as after
use Rattle.midi1_bytes.specs.Messages.{Message, voice}
use Rattle.midi1_bytes.specs.Stream.{Room, open_at_end}
use Rattle.midi1_bytes.specs.Steps.{Step, stray, undefined, cut, completed_by, step_of}
use Rattle.listing_terms.specs.declared.listed.Kind.{Kind}
use Rattle.listing_terms.specs.declared.listed.Kind.TheVariants as kinds
use Rattle.listing_terms.specs.declared.listed.Listed.{Listed}
use Rattle.midi_meaning.specs.Registers.{selected}
use Rattle.midi_meaning.specs.Controllers.{Role, data_msb, data_lsb, role_of}
use Rattle.midi_meaning.specs.State.{Channel, GroupState}
use Rattle.midi_meaning.specs.Messages.{channel_of, meaning1}
pub use Rattle.listing_terms.specs.ByteLines.{line_up}

-- ---- of a step

abbrev pub cut_kind : CutKind → Kind
cut_kind kind.Message = kinds.CutMessage
cut_kind kind.Exclusive = kinds.CutExclusive

-- what else a byte at this offset is
abbrev pub kinds_after : AfterCut → ℕ → List (Kind × ℕ)
kinds_after after.Begins offset = []
kinds_after after.Tune offset = []
kinds_after after.Undefined offset = (kinds.Undefined, offset) ∷ []
kinds_after after.Stray offset = (kinds.Stray, offset) ∷ []

-- the kinds and offsets of the lines of a byte at this offset, in order: what is cut has its start
abbrev pub kinds_of_step : Step → ℕ → List (Kind × ℕ)
kinds_of_step stray offset = (kinds.Stray, offset) ∷ []
kinds_of_step undefined offset = (kinds.Undefined, offset) ∷ []
kinds_of_step (cut start what after) offset = (cut_kind what, start) ∷ kinds_after after offset
kinds_of_step _ offset = []

-- ---- of what is open at the end, with its start

abbrev pub open_kind : CutKind → Kind
open_kind kind.Message = kinds.OpenMessage
open_kind kind.Exclusive = kinds.OpenExclusive

abbrev pub kinds_at_end : Option (ℕ × CutKind) → List (Kind × ℕ)
kinds_at_end None = []
kinds_at_end (Some begun) = (open_kind begun.1, begun.0) ∷ []

-- ---- of a data entry without a selected parameter

abbrev pub is_entry : Role → Bool
is_entry data_msb = true
is_entry data_lsb = true
is_entry _ = false

abbrev pub is_ignored_voice : Channel → Voice1 → Bool
is_ignored_voice state (voice1.Control channel index value) = is_entry (role_of index) && not (is_some (selected state.registers))
is_ignored_voice state _ = false

-- whether a message is one, from the state before it
abbrev pub is_ignored_entry : GroupState → Message → Bool
is_ignored_entry state (voice message) = is_ignored_voice (state.channels (channel_of message)) message
is_ignored_entry state _ = false

-- it has the offset of the byte that completes it
abbrev pub kinds_of_message : GroupState → Option Message → ℕ → List (Kind × ℕ)
kinds_of_message state None offset = []
kinds_of_message state (Some message) offset = if is_ignored_entry state message then (kinds.IgnoredDataEntry, offset) ∷ [] else []

-- the kinds and offsets of the lines of a byte on the way up, from the state before it
abbrev pub kinds_up : GroupState → Step → ℕ → List (Kind × ℕ)
kinds_up state step offset = kinds_of_step step offset ++ kinds_of_message state (completed_by step) offset

-- ---- of the bytes of a stream, `past` being those so far, newest first

-- what is open at the end, and the offset at which it starts
abbrev pub open_pair : Room → List ℕ → Option (ℕ × CutKind)
open_pair room past = option_map (λ begun. (begun.start, begun.kind)) (open_at_end room past)

-- ---- with paired controllers or without

module _ (paired : Bool) where
  -- the lines of one more byte
  abbrev pub lines_at : Room → ℕ → List ℕ → ℕ → List Listed
  lines_at room group past byte = map (line_up group) (kinds_up (meaning1 paired past) (step_of room past byte) (length past))

  -- the lines of all bytes, in the order in which they come
  abbrev pub lines_up : Room → ℕ → List ℕ → List Listed
  lines_up room group [] = []
  lines_up room group (byte ∷ past) = lines_up room group past ++ lines_at room group past byte

  -- the same with the line of what is open at the end of input
  abbrev pub lines_up_to_end : Room → ℕ → List ℕ → List Listed
  lines_up_to_end room group past = lines_up room group past ++ map (line_up group) (kinds_at_end (open_pair room past))

  -- the lines of bytes in the order in which they come, with the line of what is open at the end
  abbrev pub lines_of_bytes : Room → ℕ → List ℕ → List Listed
  lines_of_bytes room group bytes = lines_up room group (reverse bytes)

  abbrev pub listing_of_bytes : Room → ℕ → List ℕ → List Listed
  listing_of_bytes room group bytes = lines_up_to_end room group (reverse bytes)
