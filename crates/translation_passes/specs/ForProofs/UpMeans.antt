-- What is put for raised bytes means what they mean.
use Rattle.std.proofs.Common.{◌≡◌, ℕ, List, [], ◌∷◌, ◌++◌, refl, ap, sym, ◌∙◌, subst}
use Rattle.std.specs.Prelude.{Some}
use Rattle.std.specs.List.{flat_map}
use Rattle.std.proofs.lemmas.List.Concat.{flat_map-append}
use Rattle.packet_words.specs.declared.words.Order.{Order}
use Rattle.ump_grammar.specs.declared.packet.Packet.{Packet}
use Rattle.midi_meaning.specs.declared.listed.Listed.{Listed}
use Rattle.midi_meaning.specs.Raising.{packets_at, packets_up}
use Rattle.midi_meaning.specs.StepListing.{lines_at, lines_up}
use Rattle.text_lines.specs.ListingLines.{listing_text}
use Rattle.up_translator.specs.Held.{UpState}
use Rattle.pass_loop.specs.Bytes.{bytes_read}
use Rattle.pass_loop.specs.Named.{AreNamed, named-then}
use Rattle.pass_loop.specs.Pass.{ArePut}
use Rattle.pass_loop.specs.Put.{Put, notes_in, notes_of}
use Rattle.listing_lines.specs.ForProofs.LineLaws.{lines_named, notes-lines}
use Rattle.listing_lines.specs.Lines.{line_puts}
use Rattle.packet_input.specs.ForProofs.WrittenLaws.{written-then, written_named}
use Rattle.translation_passes.specs.Options.{UpOptions}
use Rattle.translation_passes.specs.Raised.{output_puts}
use Rattle.packet_input.specs.Written.{AreWritten, output_and_notes}
use Rattle.translation_passes.specs.ForProofs.RaisedMeans.{output-listed, output-then}
use Rattle.translation_passes.specs.Up.{HoldsRaised, raising}

-- ---- written packets

pub raises_named : (options : UpOptions) (past : List (ℕ × ℕ)) (item : ℕ × ℕ) (puts : List Put) →
    (raising options).IsPut past item puts → AreNamed output_and_notes puts
raises_named options past item puts put =
    let A : List Put → Type 0 = λ ps. AreNamed output_and_notes ps in
    let packets : List Packet = packets_at options.paired (Some options.room) options.group (bytes_read past) item.1 in
    let lines : List Listed = lines_at options.paired (Some options.room) options.group (bytes_read past) item.1 in
    subst A (sym put.2)
    (named-then output_and_notes put.0 (line_puts lines) (written_named options.order packets put.0 put.1)
    (lines_named output_and_notes refl lines))

output-written : (order : Order) (packets : List Packet) (puts : List Put) → AreWritten order packets puts →
    output_puts puts ≡ puts
output-written order [] puts written = ap output_puts written ∙ sym written
output-written order (packet ∷ packets) puts written =
    let one : output_puts written.0 ≡ written.0 = ap output_puts written.2.2 ∙ sym written.2.2 in
    ap output_puts written.4
    ∙ output-then written.0 written.1
    ∙ ap (λ xs. xs ++ output_puts written.1) one
    ∙ ap (λ xs. written.0 ++ xs) (output-written order packets written.1 written.3)
    ∙ sym written.4

written-all : (options : UpOptions) (past : List (ℕ × ℕ)) (puts : List Put) →
    ArePut (raising options) past puts
    → AreWritten options.order (packets_up options.paired (Some options.room) options.group (bytes_read past))
    (output_puts puts)
written-all options [] puts put = ap output_puts put
written-all options (item ∷ past) puts put =
    let bytes : List ℕ = bytes_read past in
    let packets : List Packet = packets_at options.paired (Some options.room) options.group bytes item.1 in
    let lines : List Listed = lines_at options.paired (Some options.room) options.group bytes item.1 in
    let W : List Put → Type 0 =
    λ xs. AreWritten options.order (packets_up options.paired (Some options.room) options.group bytes ++ packets) xs in
    let now : output_puts put.1 ≡ put.3.0 =
    output-listed put.3.0 put.1 lines put.3.2 ∙ output-written options.order packets put.3.0 put.3.1 in
    let all : output_puts puts ≡ output_puts put.0 ++ put.3.0 =
    ap output_puts put.4 ∙ output-then put.0 put.1 ∙ ap (λ xs. output_puts put.0 ++ xs) now in
    subst W (sym all)
    (written-then options.order (packets_up options.paired (Some options.room) options.group bytes) packets
    (output_puts put.0) put.3.0 (written-all options past put.0 put.2) put.3.1)

-- ---- the lines

notes-written : (order : Order) (packets : List Packet) (puts : List Put) → AreWritten order packets puts → notes_in puts ≡ []
notes-written order [] puts written = ap notes_in written
notes-written order (packet ∷ packets) puts written =
    ap notes_in written.4
    ∙ flat_map-append notes_of written.0 written.1
    ∙ ap (λ ps. notes_in ps ++ notes_in written.1) written.2.2
    ∙ notes-written order packets written.1 written.3

notes-all : (options : UpOptions) (past : List (ℕ × ℕ)) (puts : List Put) → ArePut (raising options) past puts
    → notes_in puts ≡ flat_map listing_text (lines_up options.paired (Some options.room) options.group (bytes_read past))
notes-all options [] puts put = ap notes_in put
notes-all options (item ∷ past) puts put =
    let bytes : List ℕ = bytes_read past in
    let packets : List Packet = packets_at options.paired (Some options.room) options.group bytes item.1 in
    let before : List Listed = lines_up options.paired (Some options.room) options.group bytes in
    let now : List Listed = lines_at options.paired (Some options.room) options.group bytes item.1 in
    ap notes_in put.4
    ∙ flat_map-append notes_of put.0 put.1
    ∙ ap (λ xs. xs ++ notes_in put.1) (notes-all options past put.0 put.2)
    ∙ ap (λ xs. flat_map listing_text before ++ xs)
    (ap notes_in put.3.2
    ∙ flat_map-append notes_of put.3.0 (line_puts now)
    ∙ ap (λ xs. xs ++ notes_in (line_puts now)) (notes-written options.order packets put.3.0 put.3.1)
    ∙ notes-lines now)
    ∙ sym (flat_map-append listing_text before now)

-- ---- the meaning

pub raised_means : (options : UpOptions) (up : UpState) (past : List (ℕ × ℕ)) (puts : List Put) →
    HoldsRaised options up past → ArePut (raising options) past puts → (raising options).Means past puts
raised_means options up past puts holds put =
    (written-all options past puts put, holds.law (bytes_read past) holds.accepted, notes-all options past puts put)
