-- What a running state keeps, and when it stands for the states of the meaning.
use Rattle.std.specs.Prelude.{ℕ, ◌≡◌, ◌<◌, ◌==◌, if◌then◌else◌, List, slice_index_or, Option, Some, None}
use Rattle.std.specs.Option.{option_map}
use Rattle.midi_meaning.specs.Messages.{Scale, reset_controllers}
use Rattle.midi_meaning.specs.State.{ProgramChange, Channel, GroupState}
use Rattle.voice_state.specs.declared.channel.ProgramChange as kept_program
use Rattle.voice_state.specs.declared.channel.Channel as kept_channel
use Rattle.voice_state.specs.Facts.{count_of}
use Rattle.voice_state.specs.KeptParams.{KeepsParams}
use Rattle.voice_state.specs.Tables.{at}

abbrev pub change_of : kept_program.ProgramChange → ProgramChange
change_of change = record { program = change.program; bank = change.bank }

-- a bend isn't kept if it is at its centre
abbrev pub kept_bend : ℕ → ℕ → Option ℕ
kept_bend centre value = if value == centre then None else Some value

-- what is kept of a channel is what the channel has, at a scale
pub record KeepsChannel (scale : Scale) (kept : kept_channel.Channel) (channel : Channel) : Type 0 where
  pub acts : kept.acts ≡ channel.acts
  pub poly : (note : ℕ) → at kept.poly note ≡ channel.poly note
  pub controllers : (index : ℕ) → at kept.controllers index ≡ channel.controllers index
  pub pressure : kept.pressure ≡ channel.pressure
  pub bend : kept.bend ≡ kept_bend (scale.wide 8192) channel.bend
  pub program : option_map change_of kept.program ≡ channel.program
  pub params : KeepsParams kept.params channel
  pub registers : kept.registers ≡ channel.registers

-- the controllers alone of what reset all controllers does
abbrev pub with_controllers_reset : Scale → Channel → Channel
with_controllers_reset scale channel = record channel { controllers = reset_controllers scale channel.controllers }

-- sixteen channels, and counts instead of the lists of system messages
pub record KeptGroup : Type 0 where
  pub channels : List kept_channel.Channel
  pub commons : ℕ
  pub real_times : ℕ

pub record KeepsGroup (scale : Scale) (kept : KeptGroup) (group : GroupState) : Type 0 where
  pub channels : (index : ℕ) (other : kept_channel.Channel) → index < 16
      → KeepsChannel scale (slice_index_or kept.channels index other) (group.channels index)
  pub commons : kept.commons ≡ count_of group.commons
  pub real_times : kept.real_times ≡ count_of group.real_times

-- the state of each of sixteen groups
abbrev pub Keeps : Scale → List KeptGroup → (ℕ → GroupState) → Type 0
Keeps scale kept states = (index : ℕ) (other : KeptGroup) → index < 16 → KeepsGroup scale (slice_index_or kept index other) (states index)
