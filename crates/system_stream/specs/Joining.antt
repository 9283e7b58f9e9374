-- What the joining of a kind's texts holds, what it says of one more part, and what it holds after it.
use Rattle.std.specs.Prelude.{ℕ, ◌==◌, nat_le, if◌then◌else◌, List, [], ◌∷◌, ◌++◌, length, Option, Some, None}
use Rattle.std.specs.Option.{option_map, option_and_then}
use Rattle.voice_messages.specs.declared.voice2.Form.{Form}
use Rattle.system_stream.specs.declared.texts.TextKind.{TextKind}
use Rattle.system_stream.specs.Texts.{limit_of}
use Rattle.system_stream.specs.Parts.{Part, begins, ends, opened, text_bytes, Answer, held, bad, finished}

-- a text that is open: the block that its parts name, and the bytes that are joined
pub record OpenText : Type 0 where
  pub block : ℕ
  pub bytes : List ℕ

pub record State : Type 0 where
  pub kind : TextKind
  pub text : Option OpenText

abbrev pub idle : TextKind → State
idle kind = record { kind = kind; text = None }

-- the bytes of the open text and those of a part, if it names the same block
abbrev pub joined_to : Option OpenText → ℕ → List ℕ → Option (List ℕ)
joined_to None block bytes = None
joined_to (Some text) block bytes = if text.block == block then Some (text.bytes ++ bytes) else None

-- the bytes of the text that a part belongs to, its own among them
abbrev pub joined_with : Option OpenText → Part → Option (List ℕ)
joined_with before part = if begins part.form then Some part.bytes else joined_to before part.block part.bytes

abbrev pub limited : TextKind → List ℕ → Option (List ℕ)
limited kind bytes = if nat_le (length bytes) (limit_of kind) then Some bytes else None

-- the same, if they are within the limit
abbrev pub text_with : State → Part → Option (List ℕ)
text_with state part = option_and_then (limited state.kind) (joined_with state.text part)

-- the answer to a part by the bytes of its text
abbrev pub answer_of : TextKind → Form → Option (List ℕ) → Answer
answer_of kind form None = bad
answer_of kind form (Some bytes) = if ends form then finished kind bytes else held

abbrev pub text_answer : State → Part → Answer
text_answer state part = answer_of state.kind part.form (text_with state part)

-- what is open after a part
abbrev pub open_after : Part → Option (List ℕ) → Option OpenText
open_after part joined = if ends part.form then None else option_map (λ bytes. record { block = part.block; bytes = bytes }) joined

abbrev pub after_part : State → Part → State
after_part state part = record { kind = state.kind; text = open_after part (text_with state part) }

-- the state after parts, newest first
abbrev pub state_over : TextKind → List Part → State
state_over kind [] = idle kind
state_over kind (part ∷ past) = after_part (state_over kind past) part

-- the open text of parts, by the definition
abbrev pub block_number : List Part → ℕ
block_number [] = 0
block_number (latest ∷ parts) = latest.block

abbrev pub opened_text : TextKind → List Part → Option OpenText
opened_text kind past = option_map (λ parts. record { block = block_number parts; bytes = text_bytes parts }) (opened kind past)
