-- The state of the translator between two bytes, and after a byte.
use Rattle.std.specs.Prelude.{ℕ, Bool, Option, Some, None}
use Rattle.midi1_bytes.specs.Messages.{Message, voice}
use Rattle.midi1_bytes.specs.Parsing.{Parsing, idle, parse}
use Rattle.midi1_bytes.specs.Steps.{Step, completed_by}
use Rattle.midi_meaning.specs.State.{GroupState}
use Rattle.midi_meaning.specs.Messages.{step1}
use Rattle.param_collector.specs.Holding.{Holding, fresh}
use Rattle.param_collector.specs.Keeps.{Keeps}
use Rattle.up_translator.specs.Outcome.{holding_with}

-- the group of the packets, and what control changes have set
pub record RaiserState : Type 0 where
  pub group : ℕ
  pub holding : Holding

-- and also what is open of a message or an exclusive
pub record UpState : Type 0 where
  pub group : ℕ
  pub parsing : Parsing
  pub holding : Holding

-- a new translator into a group, with this limit for the bytes of an exclusive, with paired controllers or
-- without: nothing is open, and control changes have set nothing
abbrev pub new_up : Bool → ℕ → ℕ → UpState
new_up paired room group = record { group = group; parsing = idle room; holding = fresh paired }

-- ---- after a byte

abbrev pub holding_after_message : Holding → Option Message → Holding
holding_after_message holding (Some (voice message)) = holding_with holding message
holding_after_message holding _ = holding

abbrev pub holding_after_step : Holding → Step → Holding
holding_after_step holding step = holding_after_message holding (completed_by step)

-- what the byte does
abbrev pub step_in : UpState → ℕ → ℕ → Step
step_in up offset byte = (parse up.parsing offset byte).step

-- only the byte that completes a control change changes what control changes have set
abbrev pub up_after : UpState → ℕ → ℕ → UpState
up_after up offset byte = record {
  group = up.group;
  parsing = (parse up.parsing offset byte).after;
  holding = holding_after_step up.holding (step_in up offset byte);
}

-- ---- by the meaning of MIDI 1.0

abbrev pub state_after : Bool → GroupState → Option Message → GroupState
state_after paired state None = state
state_after paired state (Some message) = step1 paired state message

-- each state that is kept is kept after a step, as it then is
abbrev pub KeepsAfter : Holding → Step → Type 0
KeepsAfter holding step =
    (state : GroupState) → Keeps holding state →
    Keeps (holding_after_step holding step) (state_after holding.paired state (completed_by step))
