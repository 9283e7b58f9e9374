-- A packet of an exclusive has two words.
use Rattle.std.proofs.Common.{ℕ, ◌≡◌, ◌<◌, ◌/◌, ◌^◌, ◌∙◌, refl, arith, Bool, true, false, List, length}
use Rattle.std.specs.Prelude.{◌||◌, slice_index}
use Rattle.voice_messages.specs.declared.voice2.Form.{Form}
use Rattle.ump_grammar.specs.WordFields.{type_of}
use Rattle.ump_grammar.specs.Reading.{Encodes}
use Rattle.ump_grammar.specs.declared.packet.Packet.TheVariants.{Exclusive}

pub two_words : (group : ℕ) (form : Form) (bytes words : List ℕ) → slice_index words 0 < 2 ^ 32 → Encodes (Exclusive group form bytes) words
    → length words ≡ 2
two_words group form bytes words small encoded =
    let kind : type_of words ≡ 3 = encoded.spelled.row.0 in
    let type : slice_index words 0 / 2 ^ 28 ≡ 3 = omega arith in
    encoded.spelled.whole ∙ rw type refl

-- what isn't refused has no byte of 128 or more
pub allowed : (own other : Bool) → own || other ≡ false → own ≡ false
allowed false other none = refl
allowed true other none = absurd cc
