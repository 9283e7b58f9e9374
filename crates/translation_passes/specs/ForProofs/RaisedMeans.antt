-- What is put for bytes that are raised goes to the output and the notes.
use Rattle.std.proofs.Common.{◌≡◌, ℕ, List, [], ◌∷◌, ◌++◌, refl, ap, sym, ◌∙◌, subst}
use Rattle.std.specs.Prelude.{Some, map}
use Rattle.std.proofs.lemmas.List.{append-nil}
use Rattle.midi_meaning.specs.declared.listed.Listed.{Listed}
use Rattle.midi_meaning.specs.StepListing.{kinds_at_end, line_up, open_pair}
use Rattle.pass_loop.specs.Bytes.{bytes_read}
use Rattle.pass_loop.specs.Named.{AreNamed}
use Rattle.pass_loop.specs.Put.{Put, in_lane, in_notes, in_output}
use Rattle.listing_lines.specs.ForProofs.LineLaws.{lines_named}
use Rattle.listing_lines.specs.Lines.{line_puts}
use Rattle.translation_passes.specs.Raised.{last_lines, output_puts}
use Rattle.packet_input.specs.Written.{output_and_notes}

pub last_named : (room group : ℕ) (past : List (ℕ × ℕ)) (puts : List Put) →
    puts ≡ last_lines room group past → AreNamed output_and_notes puts
last_named room group past puts put =
    let A : List Put → Type 0 = λ ps. AreNamed output_and_notes ps in
    subst A (sym put)
    (lines_named output_and_notes refl (map (line_up group) (kinds_at_end (open_pair (Some room) (bytes_read past)))))

-- ---- the puts in the output among others

pub output-then : (ps qs : List Put) → output_puts (ps ++ qs) ≡ output_puts ps ++ output_puts qs
output-then [] qs = refl
output-then (in_output text ∷ ps) qs = ap (λ xs. in_output text ∷ xs) (output-then ps qs)
output-then (in_lane lane piece ∷ ps) qs = output-then ps qs
output-then (in_notes text ∷ ps) qs = output-then ps qs

pub output-lines : (lines : List Listed) → output_puts (line_puts lines) ≡ []
output-lines [] = refl
output-lines (line ∷ lines) = output-lines lines

-- those of a byte are those before its lines
pub output-listed : (written puts : List Put) (lines : List Listed) → puts ≡ written ++ line_puts lines →
    output_puts puts ≡ output_puts written
output-listed written puts lines e =
    ap output_puts e ∙ output-then written (line_puts lines)
    ∙ ap (λ xs. output_puts written ++ xs) (output-lines lines) ∙ append-nil (output_puts written)
