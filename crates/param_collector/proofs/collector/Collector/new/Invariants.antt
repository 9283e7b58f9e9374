use Rattle.std.proofs.Common.{◌≡◌, replicate}
use Rattle.midi_meaning.specs.Registers.{unset_registers}
use Rattle.param_collector.proofs.collector.Collector.new.Given as goal

abbrev pub invariant-loop : goal.invariant-loop
invariant-loop l = l.registers.items ≡ replicate l.counter unset_registers
