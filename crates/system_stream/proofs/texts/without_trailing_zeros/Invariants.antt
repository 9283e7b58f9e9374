use Rattle.std.proofs.Common.{◌≡◌, length}
use Rattle.system_stream.specs.Texts.{without_trailing_zeros as trimmed}
use Rattle.system_stream.proofs.texts.without_trailing_zeros.Given as goal

abbrev pub invariant-loop-text : goal.invariant-loop-text
invariant-loop-text l = trimmed l.text ≡ trimmed l.bytes

abbrev pub decreases-loop-text : goal.decreases-loop-text
decreases-loop-text l = length l.text
