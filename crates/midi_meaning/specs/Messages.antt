-- What a MIDI 1.0 message does to a receiver (MIDI 1.0 Detailed Specification; RP-015), at the values of MIDI
-- 1.0 or raised to those of MIDI 2.0 (M2-115-U).
use Rattle.std.specs.Prelude.{ℕ, ◌+◌, ◌-◌, ◌*◌, ◌/◌, ◌==◌, nat_le, ◌&&◌, List, [], reverse, Option, Some, None, Bool, false, if◌then◌else◌}
use Rattle.std.specs.List.{fold}
use Rattle.std.specs.Option.{unwrap_or}
use Rattle.voice_messages.specs.declared.voice1.Voice1.{Voice1}
use Rattle.voice_messages.specs.declared.voice1.Voice1.TheVariants as voice1
use Rattle.voice_messages.specs.declared.voice2.Param.{Param}
use Rattle.bit_scaling.specs.Scaling.{up, down14}
use Rattle.midi1_bytes.specs.Messages.{Message, voice, common, exclusive, real_time}
use Rattle.midi1_bytes.specs.Steps.{completed}
use Rattle.midi_meaning.specs.Registers.{unset_registers, with_bank_msb, with_bank_lsb}
use Rattle.midi_meaning.specs.Registers.{with_number_msb, with_number_lsb, selected, without_selection}
use Rattle.midi_meaning.specs.Controllers.{Role, bank_msb, bank_lsb, data_msb, data_lsb, data_increment, data_decrement}
use Rattle.midi_meaning.specs.Controllers.{number_msb, number_lsb, reset_all, channel_mode, coarse, fine, plain, role_of, pairing}
use Rattle.midi_meaning.specs.State.{Act, on, off, mode, Channel, GroupState, empty, with_act, with_poly, with_controller, with_pressure}
use Rattle.midi_meaning.specs.State.{with_bend, with_program, at_registers, with_value, with_param, at_channel, with_common, with_real_time}
pub use Rattle.listing_terms.specs.Channels.{channel_of}

-- How values are kept, from those of MIDI 1.0: velocities; controllers by their index; pressures and mode
-- values; values of fourteen bits, and these back again. Own rule: if controllers are paired, the MSB and the
-- LSB of a controller are one value of fourteen bits; if they aren't, each controller is kept by itself.
pub record Scale : Type 0 where
  pub paired : Bool
  pub velocity : ℕ → ℕ
  pub controller : ℕ → ℕ → ℕ
  pub value : ℕ → ℕ
  pub wide : ℕ → ℕ
  pub narrow : ℕ → ℕ

abbrev pub as_they_come : Scale
as_they_come = record {
  paired = false;
  velocity = λ v. v;
  controller = λ index v. v;
  value = λ v. v;
  wide = λ v. v;
  narrow = λ v. v;
}

abbrev pub raised : Scale
raised = record {
  paired = false;
  velocity = λ v. up v 7 16;
  controller = λ index v. up v 7 32;
  value = λ v. up v 7 32;
  wide = λ v. up v 14 32;
  narrow = down14;
}

-- the values of bytes and of packets, with paired controllers or without
abbrev pub with_pairs : Bool → Scale → Scale
with_pairs paired scale = record scale { paired = paired }

abbrev pub of_bytes : Bool → Scale
of_bytes paired = with_pairs paired as_they_come

abbrev pub of_packets : Bool → Scale
of_packets paired = with_pairs paired raised

-- ---- control changes

-- the greatest value of a controller that is reset to it
abbrev pub greatest : Scale → ℕ → ℕ
greatest scale index = if scale.paired then scale.wide 16383 else scale.controller index 127

-- reset all controllers (RP-015): expression at its greatest; modulation, hold, portamento, sostenuto and
-- soft pedal at 0
abbrev pub reset_controllers : Scale → (ℕ → Option ℕ) → ℕ → Option ℕ
reset_controllers scale map index =
    if index == 11 then Some (greatest scale index)
    else if index == 1 then Some (scale.controller index 0)
    else if nat_le 64 index && nat_le index 67 then Some (scale.controller index 0)
    else map index

-- also, no pressure, the bend at its centre, and no parameter selected
abbrev pub reset : Scale → Channel → Channel
reset scale channel = record channel {
  controllers = reset_controllers scale channel.controllers;
  poly = empty;
  pressure = scale.value 0;
  bend = scale.wide 8192;
  registers = without_selection channel.registers;
}

-- Data entry: the MSB sets the selected parameter with an LSB of 0; the LSB keeps its MSB. Values are
-- computed at fourteen bits. Own rules: an MSB ends its looseness, an LSB leaves it; without a selected
-- parameter nothing is done.
abbrev pub enter_msb : Scale → Option Param → ℕ → Channel → Channel
enter_msb scale None value channel = channel
enter_msb scale (Some param) value channel = with_param param (scale.wide (value * 128)) channel

-- the MSB of an old value, 0 if there is none, and a new LSB
abbrev pub with_new_lsb : Scale → Option ℕ → ℕ → ℕ
with_new_lsb scale old value = scale.wide (scale.narrow (unwrap_or old 0) / 128 * 128 + value)

abbrev pub enter_lsb : Scale → Option Param → ℕ → Channel → Channel
enter_lsb scale None value channel = channel
enter_lsb scale (Some param) value channel = with_value param (with_new_lsb scale (channel.params param) value) channel

-- Own rule, if controllers are paired: an MSB clears the LSB of its controller, and an LSB, whose index is
-- higher by 32, keeps the MSB.
abbrev pub with_coarse : Scale → ℕ → ℕ → Channel → Channel
with_coarse scale index value channel = with_controller index (scale.wide (value * 128)) channel

abbrev pub with_fine : Scale → ℕ → ℕ → Channel → Channel
with_fine scale index value channel = with_controller index (with_new_lsb scale (channel.controllers index) value) channel

-- Own rule: data increment and decrement do nothing; they are refused before.
abbrev pub control : Scale → Role → ℕ → ℕ → Channel → Channel
control scale bank_msb index value channel = at_registers (with_bank_msb value) channel
control scale bank_lsb index value channel = at_registers (with_bank_lsb value) channel
control scale data_msb index value channel = enter_msb scale (selected channel.registers) value channel
control scale data_lsb index value channel = enter_lsb scale (selected channel.registers) value channel
control scale data_increment index value channel = channel
control scale data_decrement index value channel = channel
control scale (number_msb kind) index value channel = at_registers (with_number_msb kind value) channel
control scale (number_lsb kind) index value channel = at_registers (with_number_lsb kind value) channel
control scale reset_all index value channel = reset scale (with_act (mode index (scale.value value)) channel)
control scale channel_mode index value channel = with_act (mode index (scale.value value)) channel
control scale coarse index value channel = with_coarse scale index value channel
control scale fine index value channel = with_fine scale (index - 32) value channel
control scale plain index value channel = with_controller index (scale.controller index value) channel

-- ---- voice messages

-- a note on of velocity 0 is a note off; own rule: of velocity 64
abbrev pub note_on : Scale → ℕ → ℕ → Act
note_on scale note velocity =
    if velocity == 0 then off note (scale.velocity 64)
    else on note (scale.velocity velocity)

abbrev pub voice_at : Scale → Voice1 → Channel → Channel
voice_at scale (voice1.NoteOff ch note velocity) channel = with_act (off note (scale.velocity velocity)) channel
voice_at scale (voice1.NoteOn ch note velocity) channel = with_act (note_on scale note velocity) channel
voice_at scale (voice1.PolyPressure ch note value) channel = with_poly note (scale.value value) channel
voice_at scale (voice1.Control ch index value) channel = control scale (pairing scale.paired (role_of index)) index value channel
voice_at scale (voice1.Program ch program) channel = with_program program channel
voice_at scale (voice1.Pressure ch value) channel = with_pressure (scale.value value) channel
voice_at scale (voice1.Bend ch value) channel = with_bend (scale.wide value) channel

-- ---- all messages

-- Own rule: a system message is added to its list and does nothing else, System Reset included.
abbrev pub step_at : Scale → GroupState → Message → GroupState
step_at scale group (voice message) = at_channel (channel_of message) (voice_at scale message) group
step_at scale group (common message) = with_common (common message) group
step_at scale group (exclusive bytes) = with_common (exclusive bytes) group
step_at scale group (real_time message) = with_real_time message group

-- ---- what the bytes of a stream mean

abbrev pub start_channel : Scale → Channel
start_channel scale = record {
  acts = [];
  poly = empty;
  controllers = empty;
  pressure = scale.value 0;
  bend = scale.wide 8192;
  program = None;
  params = empty;
  loose = λ param. false;
  registers = unset_registers;
}

abbrev pub start : Scale → GroupState
start scale = record { channels = λ index. start_channel scale; commons = []; real_times = [] }

module _ (paired : Bool) where
  abbrev pub step1 : GroupState → Message → GroupState
  step1 group message = step_at (of_bytes paired) group message

  -- after these bytes, newest first
  abbrev pub meaning1 : List ℕ → GroupState
  meaning1 past = fold step1 (start as_they_come) (completed past)

  -- of these bytes, in the order in which they came
  abbrev pub mean1 : List ℕ → GroupState
  mean1 bytes = meaning1 (reverse bytes)
