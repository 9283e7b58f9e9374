-- When the state of a stream of bytes is that of packets, seen at 7 or 14 bits.
use Rattle.std.specs.Prelude.{◌≡◌, ℕ, map, false, Bool}
use Rattle.std.specs.Option.{option_map}
use Rattle.voice_messages.specs.declared.voice2.Param.{Param}
use Rattle.bit_scaling.specs.Scaling.{down7, down14, release_down, velocity_down}
use Rattle.midi_meaning.specs.Controllers.{Role, coarse, role_of, pairing}
use Rattle.midi_meaning.specs.State.{Act, on, off, mode, Channel, GroupState}

abbrev pub lowered : Act → Act
lowered (on note velocity) = on note (velocity_down velocity)
lowered (off note velocity) = off note (release_down velocity)
lowered (mode index value) = mode index (down7 value)

-- the value of a controller, by what it is; own rule: that of a pair has fourteen bits
abbrev pub value_down : Role → ℕ → ℕ
value_down coarse value = down14 value
value_down role value = down7 value

module _ (paired : Bool) where
  -- by its index
  abbrev pub controller_down : ℕ → ℕ → ℕ
  controller_down index value = value_down (pairing paired (role_of index)) value

  -- Nothing is said of registers and of loose parameters.
  pub record ChannelAgrees (one two : Channel) : Type 0 where
    pub acts : one.acts ≡ map lowered two.acts
    pub poly : (note : ℕ) → one.poly note ≡ option_map down7 (two.poly note)
    pub controllers : (index : ℕ) → one.controllers index ≡ option_map (controller_down index) (two.controllers index)
    pub pressure : one.pressure ≡ down7 two.pressure
    pub bend : one.bend ≡ down14 two.bend
    pub program : one.program ≡ two.program
    pub params : (param : Param) → two.loose param ≡ false → one.params param ≡ option_map down14 (two.params param)

  pub record Agrees (one two : GroupState) : Type 0 where
    pub channels : (index : ℕ) → ChannelAgrees (one.channels index) (two.channels index)
    pub commons : one.commons ≡ two.commons
    pub real_times : one.real_times ≡ two.real_times

-- of all channels
abbrev pub SameRegisters : GroupState → GroupState → Type 0
SameRegisters one two = (index : ℕ) → (one.channels index).registers ≡ (two.channels index).registers
