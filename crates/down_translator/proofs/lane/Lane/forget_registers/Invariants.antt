use Rattle.std.proofs.Common.{◌≡◌, ℕ, ◌<◌, get_or}
use Rattle.midi_meaning.specs.Registers.{unset_registers}
use Rattle.down_translator.proofs.lane.Lane.forget_registers.Given as goal

abbrev pub invariant-loop-registers : goal.invariant-loop-registers
invariant-loop-registers l =
    (k : ℕ) → k < l.registers-index → get_or l.registers-items k unset_registers ≡ unset_registers
