-- What the buffer of one group holds, and what it answers.
use Rattle.std.specs.Prelude.{◌≡◌, ℕ, List, drop, Option, Some, None}
use Rattle.std.specs.Option.{option_map}
use Rattle.std.specs.Borrow.{MutBor, Fml}
use Rattle.std.specs.Io.BufRead.{Rests}
use Rattle.voice_messages.specs.declared.voice2.Form.{Form}
use Rattle.sysex_groups.specs.declared.buffer.Buffer.{Buffer}
use Rattle.sysex_groups.specs.contracts.buffer.Buffer.{the_row}
use Rattle.sysex_groups.specs.Table.{Begun, answer_of, begun_after}
use Rattle.sysex_groups.specs.Exclusives.{Answer}

-- what one group has open, and how many bytes an exclusive may have between F0 and F7
pub record State : Type 0 where
  pub room : ℕ
  pub begun : Option Begun

abbrev pub state_of : Buffer → State
state_of buffer =
    record { room = buffer.room; begun = option_map (λ start. record { start = start; bytes = drop 1 buffer.bytes.items }) buffer.start }

abbrev pub idle : ℕ → State
idle room = record { room = room; begun = None }

abbrev pub answer_in : State → Form → List ℕ → Answer
answer_in state form bytes = answer_of (Some state.room) state.begun form bytes

abbrev pub after_in : State → Form → List ℕ → ℕ → State
after_in state form bytes offset = record { room = state.room; begun = begun_after (Some state.room) state.begun form bytes offset }

abbrev pub KeepsState : MutBor Buffer → State → Fml
KeepsState buffer state = Rests the_row buffer (λ new. state_of new ≡ state)
