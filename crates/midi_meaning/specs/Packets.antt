-- What packets mean (M2-104-UM, MIDI 2.0 channel voice messages; its default translation for those of MIDI
-- 1.0).
use Rattle.std.specs.Prelude.{ℕ, ◌<◌, ◌≤◌, if◌then◌else◌, true, List, [], ◌∷◌, length, reverse, Option, Some, None, Bool}
use Rattle.voice_messages.specs.declared.voice2.Param.{Param}
use Rattle.voice_messages.specs.declared.voice2.Bank.{Bank}
use Rattle.voice_messages.specs.declared.voice2.Voice2.{Voice2}
use Rattle.voice_messages.specs.declared.voice2.Voice2.TheVariants as voice2
use Rattle.voice_messages.specs.Ranges.{IsVoice1, IsVoice2, IsSystem}
use Rattle.ump_grammar.specs.declared.packet.Packet.{Packet}
use Rattle.ump_grammar.specs.declared.packet.Packet.TheVariants as packet
use Rattle.midi1_bytes.specs.Messages.{voice, exclusive, system_message, AreData}
use Rattle.midi_meaning.specs.Registers.{with_bank, with_selected, is_null}
use Rattle.midi_meaning.specs.Controllers.{Role, reset_all, channel_mode, coarse, plain, role_of, pairing}
use Rattle.midi_meaning.specs.State.{on, off, mode, Channel, GroupState, with_act, with_poly, with_controller, with_pressure}
use Rattle.midi_meaning.specs.State.{with_bend, with_program, at_registers, with_param, with_looseness, at_channel, with_common}
use Rattle.midi_meaning.specs.Messages.{raised, of_packets, reset, step_at, start}
use Rattle.listing_terms.specs.Parts.{group_of, is_group, whole_of}
pub use Rattle.listing_terms.specs.Channels.{channel2}

-- A control change of MIDI 2.0: the indexes of banks, data entry and parameter numbers have packets of their
-- own. Own rule: so has the LSB of a controller, if controllers are paired, in the packet of its MSB.
abbrev pub control2 : Role → ℕ → ℕ → Channel → Channel
control2 channel_mode index value channel = with_act (mode index value) channel
control2 reset_all index value channel = reset raised (with_act (mode index value) channel)
control2 coarse index value channel = with_controller index value channel
control2 plain index value channel = with_controller index value channel
control2 _ index value channel = channel

-- it also selects the parameter
abbrev pub set_param : Param → ℕ → Channel → Channel
set_param param value channel = at_registers (with_selected param) (with_param param value channel)

-- a program change with a bank also selects the bank
abbrev pub program2 : Option Bank → ℕ → Channel → Channel
program2 None program channel = with_program program channel
program2 (Some bank) program channel = with_program program (at_registers (with_bank bank) channel)

abbrev pub with_ended : Option (List ℕ) → GroupState → GroupState
with_ended None group = group
with_ended (Some bytes) group = with_common (exclusive bytes) group

-- ---- the ranges of a packet's fields

abbrev pub IsInRange : Packet → Type 0
IsInRange (packet.System group message) = (group < 16) × IsSystem message
IsInRange (packet.Voice1 group message) = (group < 16) × IsVoice1 message
IsInRange (packet.Exclusive group form bytes) = (group < 16) × (length bytes ≤ 6) × AreData bytes
IsInRange (packet.Voice2 group message) = (group < 16) × IsVoice2 message
IsInRange _ = Unit {0}

-- ---- with paired controllers or without

module _ (paired : Bool) where
  -- Own rules: a relative change makes its parameter loose and leaves its value; the null parameter takes
  -- nothing; what MIDI 1.0 has no message for does nothing.
  abbrev pub voice2_at : Voice2 → Channel → Channel
  voice2_at (voice2.NoteOff ch note velocity attribute_type attribute) channel = with_act (off note velocity) channel
  voice2_at (voice2.NoteOn ch note velocity attribute_type attribute) channel = with_act (on note velocity) channel
  voice2_at (voice2.PolyPressure ch note value) channel = with_poly note value channel
  voice2_at (voice2.Control ch index value) channel = control2 (pairing paired (role_of index)) index value channel
  voice2_at (voice2.Set ch param value) channel = if is_null param then channel else set_param param value channel
  voice2_at (voice2.Shift ch param value) channel = if is_null param then channel else with_looseness true param channel
  voice2_at (voice2.Program ch program bank) channel = program2 bank program channel
  voice2_at (voice2.Pressure ch value) channel = with_pressure value channel
  voice2_at (voice2.Bend ch value) channel = with_bend value channel
  voice2_at _ channel = channel

  -- one packet of the group, with the bytes of the exclusive that it ends, if it ends one
  abbrev pub step2 : GroupState → Packet → Option (List ℕ) → GroupState
  step2 state (packet.System group message) whole = step_at (of_packets paired) state (system_message message)
  step2 state (packet.Voice1 group message) whole = step_at (of_packets paired) state (voice message)
  step2 state (packet.Exclusive group form bytes) whole = with_ended whole state
  step2 state (packet.Voice2 group message) whole = at_channel (channel2 message) (voice2_at message) state
  step2 state _ whole = state

  -- for a group, after these packets of all groups, newest first
  abbrev pub meaning2 : List Packet → ℕ → GroupState
  meaning2 [] group = start raised
  meaning2 (packet ∷ past) group =
      if is_group (group_of packet) group then step2 (meaning2 past group) packet (whole_of past packet)
      else meaning2 past group

  -- of these packets, in the order in which they came
  abbrev pub mean2 : List Packet → ℕ → GroupState
  mean2 packets group = meaning2 (reverse packets) group
