use Rattle.std.proofs.Common.{◌≡◌, replicate}
use Rattle.midi_meaning.specs.Registers.{unset_registers}
use Rattle.down_translator.proofs.lane.Lane.new.Given as goal

abbrev pub invariant-loop : goal.invariant-loop
invariant-loop l = l.channels.items ≡ replicate l.counter unset_registers
