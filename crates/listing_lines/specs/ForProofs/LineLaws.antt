-- What the puts of lines of the listing leave, and into which place they go; a byte without lines.
use Rattle.std.proofs.Common.{◌≡◌, true, List, [], ◌∷◌, ◌++◌, Option, None, Some, refl, ap}
use Rattle.std.specs.Prelude.{is_none, ◌&&◌}
use Rattle.std.specs.List.{flat_map}
use Rattle.std.specs.Option.{option_to_list}
use Rattle.std.proofs.lemmas.Bool.{false≢true}
use Rattle.std.proofs.lemmas.List.{map-append}
use Rattle.listing_terms.specs.declared.listed.Listed.{Listed}
use Rattle.listing_terms.specs.ByteLines.{first_in, has_none, lines_in, second_in}
use Rattle.listing_terms.specs.declared.byte_lines.ByteLines.{ByteLines}
use Rattle.text_lines.specs.ListingLines.{listing_text}
use Rattle.pass_loop.specs.Named.{AreNamed, Named}
use Rattle.pass_loop.specs.Put.{in_notes, notes_in, output_in, pairs_in}
use Rattle.listing_lines.specs.Lines.{line_puts}

pub lines-then : (first second : List Listed) → line_puts (first ++ second) ≡ line_puts first ++ line_puts second
lines-then first second = map-append (λ (line : Listed). in_notes (listing_text line)) first second

pub lines_named : (names : Named) → names.notes ≡ true → (lines : List Listed) → AreNamed names (line_puts lines)
lines_named names named [] = tt
lines_named names named (line ∷ lines) = (named, lines_named names named lines)

pub notes-lines : (lines : List Listed) → notes_in (line_puts lines) ≡ flat_map listing_text lines
notes-lines [] = refl
notes-lines (line ∷ lines) = ap (λ xs. listing_text line ++ xs) (notes-lines lines)

pub output-lines : (lines : List Listed) → output_in (line_puts lines) ≡ []
output-lines [] = refl
output-lines (line ∷ lines) = output-lines lines

pub pairs-lines : (lines : List Listed) → pairs_in (line_puts lines) ≡ []
pairs-lines [] = refl
pairs-lines (line ∷ lines) = pairs-lines lines

-- ---- the lines of a byte

neither : (first second : Option Listed) → (is_none first && is_none second) ≡ true →
    option_to_list first ++ option_to_list second ≡ []
neither None None none = refl
neither None (Some second) none = absurd (false≢true none)
neither (Some first) second none = absurd (false≢true none)

pub none-lines : (lines : ByteLines) → has_none lines ≡ true → lines_in lines ≡ []
none-lines lines none = neither (first_in lines) (second_in lines) none
