-- What is kept of a channel after a change of its parameters.
use Rattle.std.proofs.Common.{◌≡◌, ◌∙◌, ap, sym, subst, ℕ, ◌*◌, Bool, true, false, if◌then◌else◌, Option, Some}
use Rattle.voice_messages.specs.declared.voice2.Param.{Param}
use Rattle.midi_meaning.specs.Messages.{Scale, raised, enter_msb, enter_lsb, with_new_lsb}
use Rattle.midi_meaning.specs.Packets.{set_param}
use Rattle.midi_meaning.specs.Registers.{Registers, is_null, selected, with_selected}
use Rattle.midi_meaning.specs.State.{Channel, put, same_param, with_param, with_value, with_looseness, with_registers}
use Rattle.voice_state.specs.declared.channel.Channel as kept_channel
use Rattle.voice_state.specs.declared.params.Params.{Params}
use Rattle.voice_state.specs.Kept.{KeepsChannel}
use Rattle.voice_state.specs.KeptParams.{KeepsParams}

changed_params : (scale : Scale) (kept : kept_channel.Channel) (params : Params) (state : Channel) (values : Param → Option ℕ)
    (looseness : Param → Bool) →
    KeepsChannel scale kept state → KeepsParams params (record state { params = values; loose = looseness }) →
    KeepsChannel scale (record kept { params = params }) (record state { params = values; loose = looseness })
changed_params scale kept params state values looseness keeps keeps_params = record {
  acts = keeps.acts;
  poly = keeps.poly;
  controllers = keeps.controllers;
  pressure = keeps.pressure;
  bend = keeps.bend;
  program = keeps.program;
  params = keeps_params;
  registers = keeps.registers;
}

-- ---- data entries

pub entered_msb : (scale : Scale) (kept : kept_channel.Channel) (params : Params) (param : Param) (entered value : ℕ) (state : Channel) →
    selected kept.registers ≡ Some param → KeepsChannel scale kept state → entered ≡ scale.wide (value * 128)
    → KeepsParams params (with_param param entered state) →
    KeepsChannel scale (record kept { params = params }) (enter_msb scale (selected state.registers) value state)
entered_msb scale kept params param entered value state is keeps entered_is keeps_params =
    subst (λ chosen. KeepsChannel scale (record kept { params = params }) (enter_msb scale chosen value state))
    (sym (ap selected (sym keeps.registers) ∙ is))
    (changed_params scale kept params state (put same_param state.params param (scale.wide (value * 128)))
    (λ other. if same_param other param then false else state.loose other) keeps
    (subst (λ now. KeepsParams params (with_param param now state)) entered_is keeps_params))

pub entered_lsb : (scale : Scale) (kept : kept_channel.Channel) (params : Params) (param : Param) (entered value : ℕ) (state : Channel) →
    selected kept.registers ≡ Some param → KeepsChannel scale kept state → entered ≡ with_new_lsb scale (state.params param) value
    → KeepsParams params (with_value param entered state) →
    KeepsChannel scale (record kept { params = params }) (enter_lsb scale (selected state.registers) value state)
entered_lsb scale kept params param entered value state is keeps entered_is keeps_params =
    subst (λ chosen. KeepsChannel scale (record kept { params = params }) (enter_lsb scale chosen value state))
    (sym (ap selected (sym keeps.registers) ∙ is))
    (changed_params scale kept params state (put same_param state.params param (with_new_lsb scale (state.params param) value)) state.loose
    keeps
    (subst (λ now. KeepsParams params (with_value param now state)) entered_is keeps_params))

-- ---- packets of parameters

pub set_kept : (kept : kept_channel.Channel) (params : Params) (registers : Registers) (param : Param) (value : ℕ) (state : Channel) →
    is_null param ≡ false → KeepsChannel raised kept state → registers ≡ with_selected param kept.registers
    → KeepsParams params (with_param param value state) →
    KeepsChannel raised (record kept { params = params; registers = registers })
    (if is_null param then state else set_param param value state)
set_kept kept params registers param value state not_null keeps registers_are keeps_params =
    subst (λ null. KeepsChannel raised (record kept { params = params; registers = registers })
    (if null then state else set_param param value state))
    (sym not_null)
    (record {
      acts = keeps.acts;
      poly = keeps.poly;
      controllers = keeps.controllers;
      pressure = keeps.pressure;
      bend = keeps.bend;
      program = keeps.program;
      params = record { registered = keeps_params.registered; assignable = keeps_params.assignable };
      registers = registers_are ∙ ap (with_selected param) keeps.registers;
    })

pub loosened_kept : (kept : kept_channel.Channel) (params : Params) (param : Param) (state : Channel) →
    is_null param ≡ false → KeepsChannel raised kept state → KeepsParams params (with_looseness true param state) →
    KeepsChannel raised (record kept { params = params }) (if is_null param then state else with_looseness true param state)
loosened_kept kept params param state not_null keeps keeps_params =
    subst (λ null. KeepsChannel raised (record kept { params = params }) (if null then state else with_looseness true param state))
    (sym not_null)
    (changed_params raised kept params state state.params (λ other. if same_param other param then true else state.loose other) keeps
    keeps_params)

-- ---- registers

pub registers_kept : (scale : Scale) (kept : kept_channel.Channel) (registers changed : Registers) (state : Channel)
    → KeepsChannel scale kept state → registers ≡ changed →
    KeepsChannel scale (record kept { registers = registers }) (with_registers changed state)
registers_kept scale kept registers changed state keeps is = record {
  acts = keeps.acts;
  poly = keeps.poly;
  controllers = keeps.controllers;
  pressure = keeps.pressure;
  bend = keeps.bend;
  program = keeps.program;
  params = record { registered = keeps.params.registered; assignable = keeps.params.assignable };
  registers = is;
}
