-- The exit code for each status, and which of them are faults.
use Rattle.std.specs.Prelude.{ℕ, Bool, true, false}
use Rattle.midi_commands.specs.declared.status.Status.{Status}
use Rattle.midi_commands.specs.declared.status.Status.TheVariants.{Done, Refused, ReadFault, LaneFault, OutputFault, NoteFault}
use Rattle.midi_commands.specs.declared.status.Status.TheVariants.{ShelfFault, Usage, SetupSyntax, SetupField, NoMemory}

abbrev pub exit_code_of : Status → ℕ
exit_code_of Done = 0
exit_code_of (Refused reason offset) = 1
exit_code_of ReadFault = 2
exit_code_of LaneFault = 3
exit_code_of OutputFault = 4
exit_code_of NoteFault = 5
exit_code_of ShelfFault = 6
exit_code_of Usage = 7
exit_code_of SetupSyntax = 8
exit_code_of (SetupField rule) = 9
exit_code_of NoMemory = 10

-- a read or a write failed
abbrev pub is_fault : Status → Bool
is_fault ReadFault = true
is_fault LaneFault = true
is_fault OutputFault = true
is_fault NoteFault = true
is_fault ShelfFault = true
is_fault _ = false
