use Rattle.std.proofs.Common.{false}
use Rattle.std.proofs.lemmas.List.{get_or-replicate}
use Rattle.midi_meaning.proofs.direct_controls.DirectControls.none.Goals as goal

pub invariant_of-result : goal.invariant_of-result
invariant_of-result c = λ index below. get_or-replicate 128 index false false below
