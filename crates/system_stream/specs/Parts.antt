-- Texts in the parts of stream packets, looking back over the parts of one kind that came.
use Rattle.std.specs.Prelude.{ℕ, ◌==◌, nat_le, Bool, true, false, if◌then◌else◌, List, [], ◌∷◌, length, reverse, Option, Some, None}
use Rattle.std.specs.List.{flat_map}
use Rattle.std.specs.Option.{option_and_then}
use Rattle.voice_messages.specs.declared.voice2.Form.{Form}
use Rattle.voice_messages.specs.declared.voice2.Form.TheVariants as form
use Rattle.system_stream.specs.declared.texts.TextKind.{TextKind}
use Rattle.system_stream.specs.Texts.{limit_of, without_trailing_zeros, is_text}

-- what one packet has of a text
pub record Part : Type 0 where
  pub form : Form
  pub block : ℕ
  pub bytes : List ℕ

-- a part that begins a text
abbrev pub begins : Form → Bool
begins form.Complete = true
begins form.Start = true
begins form.Continue = false
begins form.End = false

-- a part that ends a text
abbrev pub ends : Form → Bool
ends form.Complete = true
ends form.Start = false
ends form.Continue = false
ends form.End = true

-- a part continues the text of these parts if it names the same block
abbrev pub goes_on : Part → List Part → Option (List Part)
goes_on part [] = None
goes_on part (latest ∷ parts) = if latest.block == part.block then Some (part ∷ latest ∷ parts) else None

-- the parts of the text that a part belongs to, itself among them, by the parts of the text that was open
-- before it
abbrev pub parts_with : Part → Option (List Part) → Option (List Part)
parts_with part before = if begins part.form then Some (part ∷ []) else option_and_then (goes_on part) before

-- Parts of one kind, newest first: those of the text that is open after them, which are one that begins it,
-- and after it none that ends it or names another block.
abbrev pub since_start : List Part → Option (List Part)
since_start [] = None
since_start (part ∷ past) = if ends part.form then None else parts_with part (since_start past)

-- their bytes, in the order in which they came
abbrev pub text_bytes : List Part → List ℕ
text_bytes parts = flat_map (λ part. part.bytes) (reverse parts)

-- parts whose bytes are within the limit of the kind
abbrev pub within : TextKind → List Part → Option (List Part)
within kind parts = if nat_le (length (text_bytes parts)) (limit_of kind) then Some parts else None

-- the parts of the text that is open after these parts
abbrev pub opened : TextKind → List Part → Option (List Part)
opened kind past = option_and_then (within kind) (since_start past)

-- the answer to a part
pub data Answer : Type 0 where
  held : Answer
  whole : List ℕ → Answer
  bad : Answer

-- a text that has ended: these bytes without the zeros at their end, if they are a text of the kind
abbrev pub finished : TextKind → List ℕ → Answer
finished kind bytes = if is_text kind (without_trailing_zeros bytes) then whole (without_trailing_zeros bytes) else bad

-- The answer by the parts of the text that a part belongs to, if these are within the limit.
abbrev pub answer_from : TextKind → Form → Option (List Part) → Answer
answer_from kind form None = bad
answer_from kind form (Some parts) = if ends form then finished kind (text_bytes parts) else held

-- the answer to a part that comes after these parts
abbrev pub answer_at : TextKind → List Part → Part → Answer
answer_at kind past part = answer_from kind part.form (option_and_then (within kind) (parts_with part (since_start past)))
