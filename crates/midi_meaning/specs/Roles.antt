-- The role of the definition for each role that the code names, and what a control change leaves of the
-- registers.
use Rattle.std.specs.Prelude.{ℕ}
use Rattle.midi_meaning.specs.Registers.{Registers, with_bank_msb, with_bank_lsb, with_number_msb, with_number_lsb, without_selection}
use Rattle.midi_meaning.specs.declared.role.ControlRole.{ControlRole}
use Rattle.midi_meaning.specs.declared.role.ControlRole.TheVariants as control_role
use Rattle.midi_meaning.specs.Controllers.{Role, bank_msb, bank_lsb, data_msb, data_lsb, data_increment, data_decrement}
use Rattle.midi_meaning.specs.Controllers.{number_msb, number_lsb, reset_all, channel_mode, coarse, fine, plain}

abbrev pub role_in : ControlRole → Role
role_in control_role.BankMsb = bank_msb
role_in control_role.BankLsb = bank_lsb
role_in control_role.DataMsb = data_msb
role_in control_role.DataLsb = data_lsb
role_in control_role.DataIncrement = data_increment
role_in control_role.DataDecrement = data_decrement
role_in (control_role.NumberMsb kind) = number_msb kind
role_in (control_role.NumberLsb kind) = number_lsb kind
role_in control_role.ResetAll = reset_all
role_in control_role.ChannelMode = channel_mode
role_in control_role.Coarse = coarse
role_in control_role.Fine = fine
role_in control_role.Plain = plain

-- what a control change leaves of the registers
abbrev pub registers_after : Role → ℕ → Registers → Registers
registers_after bank_msb value registers = with_bank_msb value registers
registers_after bank_lsb value registers = with_bank_lsb value registers
registers_after data_msb value registers = registers
registers_after data_lsb value registers = registers
registers_after data_increment value registers = registers
registers_after data_decrement value registers = registers
registers_after (number_msb kind) value registers = with_number_msb kind value registers
registers_after (number_lsb kind) value registers = with_number_lsb kind value registers
registers_after reset_all value registers = without_selection registers
registers_after channel_mode value registers = registers
registers_after coarse value registers = registers
registers_after fine value registers = registers
registers_after plain value registers = registers
