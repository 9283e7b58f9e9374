use Rattle.std.proofs.Common.{◌≡◌, ℕ, ◌<◌, get_or}
use Rattle.midi_meaning.specs.Registers.{unset_registers}
use Rattle.param_collector.proofs.collector.unset_all.Given as goal

abbrev pub invariant-loop-registers : goal.invariant-loop-registers
invariant-loop-registers l = (k : ℕ) → k < l.registers-index → get_or l.channels k unset_registers ≡ unset_registers
