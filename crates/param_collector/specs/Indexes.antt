-- The indexes of each answer, with controllers paired or not.
use Rattle.std.specs.Prelude.{◌≡◌, ℕ, ◌+◌, ◌⊎◌, Bool, true}
use Rattle.midi_meaning.specs.Indexes.{IsHalf, IsDataEntry, IsCoarse, IsFine, IsUnpaired}
use Rattle.param_collector.specs.declared.collected.Collected.{Collected}
use Rattle.param_collector.specs.declared.collected.Collected.TheVariants as collected

abbrev pub IsIndexOf : Bool → Collected → ℕ → Type 0
IsIndexOf paired collected.DataIncrement index = index ≡ 96
IsIndexOf paired collected.DataDecrement index = index ≡ 97
IsIndexOf paired collected.Held index = IsHalf index
IsIndexOf paired (collected.Set param value) index = IsDataEntry index
IsIndexOf paired collected.Ignored index = IsDataEntry index
IsIndexOf paired (collected.Pair coarse value) index =
    (paired ≡ true) × ((IsCoarse index × (coarse ≡ index)) ⊎ (IsFine index × (coarse + 32 ≡ index)))
IsIndexOf paired collected.Plain index = IsUnpaired paired index
