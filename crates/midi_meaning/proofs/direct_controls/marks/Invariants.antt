use Rattle.std.proofs.Common.{◌≡◌, ◌<◌, ℕ, Some, false, length, slice_index_or}
use Rattle.midi_meaning.specs.Controllers.{is_direct_in}
use Rattle.midi_meaning.proofs.direct_controls.marks.Given as goal

abbrev pub invariant-loop-index : goal.invariant-loop-index
invariant-loop-index l =
    (length l.marked ≡ 128) × ((index : ℕ) → index < l.index → slice_index_or l.marked index false ≡ is_direct_in (Some l.fn.paired) index)
