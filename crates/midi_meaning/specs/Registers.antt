-- Bank select and parameter numbers (MIDI 1.0 Detailed Specification, bank select, registered and
-- non-registered parameter numbers): what a receiver keeps of them, half by half.
use Rattle.std.specs.Prelude.{ℕ, ◌==◌, ◌&&◌, Bool, if◌then◌else◌, Option, Some, None}
use Rattle.voice_messages.specs.declared.voice2.ParamKind.{ParamKind}
use Rattle.voice_messages.specs.declared.voice2.ParamKind.TheVariants.{Registered, Assignable}
use Rattle.voice_messages.specs.declared.voice2.Param.{Param}
use Rattle.voice_messages.specs.declared.voice2.Bank.{Bank}

-- a bank or a parameter's number, of which each half may be unset
pub record Pair : Type 0 where
  pub msb : Option ℕ
  pub lsb : Option ℕ

pub record Registers : Type 0 where
  pub bank : Pair
  pub registered : Pair
  pub assignable : Pair
  pub touched : Option ParamKind

abbrev pub unset : Pair
unset = record { msb = None; lsb = None }

abbrev pub unset_registers : Registers
unset_registers = record { bank = unset; registered = unset; assignable = unset; touched = None }

abbrev pub with_msb : ℕ → Pair → Pair
with_msb value pair = record { msb = Some value; lsb = pair.lsb }

abbrev pub with_lsb : ℕ → Pair → Pair
with_lsb value pair = record { msb = pair.msb; lsb = Some value }

-- ---- the bank

-- own rule: a new half leaves the other one
abbrev pub with_bank_msb : ℕ → Registers → Registers
with_bank_msb value registers = record registers { bank = with_msb value registers.bank }

abbrev pub with_bank_lsb : ℕ → Registers → Registers
with_bank_lsb value registers = record registers { bank = with_lsb value registers.bank }

abbrev pub with_bank : Bank → Registers → Registers
with_bank bank registers = record registers { bank = record { msb = Some bank.msb; lsb = Some bank.lsb } }

-- the bank that a program change takes: an unset half is 0, and none is taken if neither is set
abbrev pub bank_by : Option ℕ → Option ℕ → Option Bank
bank_by None None = None
bank_by (Some msb) None = Some (record { msb = msb; lsb = 0 })
bank_by None (Some lsb) = Some (record { msb = 0; lsb = lsb })
bank_by (Some msb) (Some lsb) = Some (record { msb = msb; lsb = lsb })

abbrev pub bank_of : Registers → Option Bank
bank_of registers = bank_by registers.bank.msb registers.bank.lsb

-- ---- the selected parameter

abbrev pub number_of : ParamKind → Registers → Pair
number_of Registered registers = registers.registered
number_of Assignable registers = registers.assignable

-- a number is touched if a half of it is set
abbrev pub with_number : ParamKind → Pair → Registers → Registers
with_number Registered pair registers = record registers { registered = pair; touched = Some Registered }
with_number Assignable pair registers = record registers { assignable = pair; touched = Some Assignable }

-- own rule: a new half leaves the other one
abbrev pub with_number_msb : ParamKind → ℕ → Registers → Registers
with_number_msb kind value registers = with_number kind (with_msb value (number_of kind registers)) registers

abbrev pub with_number_lsb : ParamKind → ℕ → Registers → Registers
with_number_lsb kind value registers = with_number kind (with_lsb value (number_of kind registers)) registers

abbrev pub with_selected : Param → Registers → Registers
with_selected param registers = with_number param.kind (record { msb = Some param.bank; lsb = Some param.index }) registers

abbrev pub is_null : Param → Bool
is_null param = (param.bank == 127) && (param.index == 127)

abbrev pub unless_null : Param → Option Param
unless_null param = if is_null param then None else Some param

abbrev pub selected_by : ParamKind → Option ℕ → Option ℕ → Option Param
selected_by kind (Some msb) (Some lsb) = unless_null (record { kind = kind; bank = msb; index = lsb })
selected_by kind _ _ = None

abbrev pub selected_of : Option ParamKind → Registers → Option Param
selected_of None registers = None
selected_of (Some kind) registers = let pair = number_of kind registers in selected_by kind pair.msb pair.lsb

-- the parameter of the number that was touched last, if it is whole and isn't the null number 127/127
abbrev pub selected : Registers → Option Param
selected registers = selected_of registers.touched registers

-- reset all controllers sets the parameter numbers to null (RP-015); own rule: the one touched last stays so
abbrev pub null_number : Pair
null_number = record { msb = Some 127; lsb = Some 127 }

abbrev pub without_selection : Registers → Registers
without_selection registers = record registers { registered = null_number; assignable = null_number }
