use Rattle.std.proofs.Common.{◌-◌, length}
use Rattle.c_voice_state.specs.Bytes.{RefusesByte, TakesByte}
use Rattle.c_voice_state.proofs.BlockLaws.{AreSoFar}
use Rattle.c_voice_state.proofs.bytes.CByteState.bytes.Given as goal

abbrev pub invariant-loop-block : goal.invariant-loop-block
invariant-loop-block l = AreSoFar (λ byte. 1) TakesByte RefusesByte l.fn.self l.bytes l.block l.self

abbrev pub decreases-loop-block : goal.decreases-loop-block
decreases-loop-block l = length l.bytes - l.block.taken
