use Rattle.std.proofs.Common.{◌-◌}
use Rattle.sysex_groups.specs.Cut.{part_count}
use Rattle.c_translators.proofs.EncodedLaws.{AreCut}
use Rattle.c_translators.proofs.up.put_exclusive.Given as goal

abbrev pub invariant-loop-form : goal.invariant-loop-form
invariant-loop-form l = AreCut l.group l.payload l.fn.words l.k l.written l.words

abbrev pub decreases-loop-form : goal.decreases-loop-form
decreases-loop-form l = part_count l.payload - l.k
