-- What messages leave in a receiver: the state of a channel and of a group. Own rule: notes and channel mode
-- messages are kept as the list of all that came.
use Rattle.std.specs.Prelude.{ℕ, ◌==◌, ◌&&◌, List, [], ◌∷◌, ◌++◌, Option, Some, None, Bool, true, false, if◌then◌else◌}
use Rattle.voice_messages.specs.declared.voice1.System.{System}
use Rattle.voice_messages.specs.declared.voice2.ParamKind.{ParamKind}
use Rattle.voice_messages.specs.declared.voice2.ParamKind.TheVariants.{Registered, Assignable}
use Rattle.voice_messages.specs.declared.voice2.Param.{Param}
use Rattle.voice_messages.specs.declared.voice2.Bank.{Bank}
use Rattle.midi1_bytes.specs.Messages.{Message}
use Rattle.midi_meaning.specs.Registers.{Registers, bank_of}

-- a note that begins or ends with its velocity, or a channel mode message
pub data Act : Type 0 where
  on : ℕ → ℕ → Act
  off : ℕ → ℕ → Act
  mode : ℕ → ℕ → Act

pub record ProgramChange : Type 0 where
  pub program : ℕ
  pub bank : Option Bank

-- A parameter is loose if a relative change that can't be carried came since it was set.
pub record Channel : Type 0 where
  pub acts : List Act
  pub poly : ℕ → Option ℕ
  pub controllers : ℕ → Option ℕ
  pub pressure : ℕ
  pub bend : ℕ
  pub program : Option ProgramChange
  pub params : Param → Option ℕ
  pub loose : Param → Bool
  pub registers : Registers

pub record GroupState : Type 0 where
  pub channels : ℕ → Channel
  pub commons : List Message
  pub real_times : List System

-- ---- maps

abbrev pub empty : {K V : Type 0} → K → Option V
empty key = None

-- the map with a value set
abbrev pub put : {K V : Type 0} → (K → K → Bool) → (K → Option V) → K → V → K → Option V
put same map key value = λ other. if same other key then Some value else map other

abbrev pub same_kind : ParamKind → ParamKind → Bool
same_kind Registered Registered = true
same_kind Assignable Assignable = true
same_kind _ _ = false

abbrev pub same_param : Param → Param → Bool
same_param p q = same_kind p.kind q.kind && ((p.bank == q.bank) && (p.index == q.index))

-- ---- changes of a channel

abbrev pub with_act : Act → Channel → Channel
with_act act channel = record channel { acts = channel.acts ++ act ∷ [] }

abbrev pub with_poly : ℕ → ℕ → Channel → Channel
with_poly note value channel = record channel { poly = put ◌==◌ channel.poly note value }

abbrev pub with_controller : ℕ → ℕ → Channel → Channel
with_controller index value channel = record channel { controllers = put ◌==◌ channel.controllers index value }

abbrev pub with_pressure : ℕ → Channel → Channel
with_pressure value channel = record channel { pressure = value }

abbrev pub with_bend : ℕ → Channel → Channel
with_bend value channel = record channel { bend = value }

-- a program change takes the bank that is selected, which stays selected
abbrev pub with_program : ℕ → Channel → Channel
with_program program channel = record channel { program = Some (record { program = program; bank = bank_of channel.registers }) }

abbrev pub with_registers : Registers → Channel → Channel
with_registers registers channel = record channel { registers = registers }

abbrev pub at_registers : (Registers → Registers) → Channel → Channel
at_registers change channel = with_registers (change channel.registers) channel

abbrev pub with_looseness : Bool → Param → Channel → Channel
with_looseness is_loose param channel = record channel {
  loose = λ other. if same_param other param then is_loose else channel.loose other;
}

-- a parameter has a value, and is as loose as before
abbrev pub with_value : Param → ℕ → Channel → Channel
with_value param value channel = record channel { params = put same_param channel.params param value }

-- a parameter is set, and isn't loose
abbrev pub with_param : Param → ℕ → Channel → Channel
with_param param value channel = with_looseness false param (with_value param value channel)

-- ---- changes of a group

abbrev pub at_channel : ℕ → (Channel → Channel) → GroupState → GroupState
at_channel index change group = record group {
  channels = λ other. if other == index then change (group.channels other) else group.channels other;
}

abbrev pub with_common : Message → GroupState → GroupState
with_common message group = record group { commons = group.commons ++ message ∷ [] }

abbrev pub with_real_time : System → GroupState → GroupState
with_real_time message group = record group { real_times = group.real_times ++ message ∷ [] }
