-- What is put for bytes that come back means what they mean.
use Rattle.std.proofs.Common.{◌≡◌, ℕ, Bool, List, [], ◌∷◌, ◌++◌, refl, ap, sym, ◌∙◌, subst}
use Rattle.std.specs.Prelude.{Some, reverse}
use Rattle.std.specs.List.{flat_map}
use Rattle.std.proofs.lemmas.List.{append-nil}
use Rattle.std.proofs.lemmas.List.Concat.{flat_map-append}
use Rattle.ump_grammar.specs.declared.packet.Packet.{Packet}
use Rattle.midi_meaning.specs.declared.listed.Listed.{Listed}
use Rattle.midi_meaning.specs.Back.{back, back_at, pieces_of}
use Rattle.midi_meaning.specs.Parts.{whole_of}
use Rattle.midi_meaning.specs.Plain.{plain_piece}
use Rattle.midi_meaning.specs.Raising.{packets_up}
use Rattle.midi_meaning.specs.StepListing.{lines_at, lines_up}
use Rattle.text_lines.specs.ListingLines.{listing_text}
use Rattle.up_translator.specs.Held.{UpState}
use Rattle.down_translator.specs.Held.{DownState}
use Rattle.pass_loop.specs.Bytes.{bytes_read}
use Rattle.pass_loop.specs.Named.{AreNamed, named-then}
use Rattle.pass_loop.specs.Pass.{ArePut}
use Rattle.pass_loop.specs.Put.{Put, notes_in, notes_of, output_in, output_of}
use Rattle.listing_lines.specs.ForProofs.LineLaws.{lines_named, notes-lines, output-lines}
use Rattle.translation_passes.specs.Back.{HoldsBack, byte_pieces, piece_puts, plain_puts, returning}
use Rattle.listing_lines.specs.Lines.{line_puts}
use Rattle.translation_passes.specs.Options.{BackOptions}
use Rattle.translation_passes.specs.Raised.{byte_lines, byte_packets}
use Rattle.packet_input.specs.Written.{output_and_notes}

-- ---- the places of puts

piece_named : (piece : List ℕ) → AreNamed output_and_notes (piece_puts piece)
piece_named [] = tt
piece_named (byte ∷ bytes) = (refl, tt)

plain_named : (paired : Bool) (past packets : List Packet) → AreNamed output_and_notes (plain_puts paired past packets)
plain_named paired past [] = tt
plain_named paired past (packet ∷ packets) =
    let piece : List ℕ = plain_piece paired (whole_of past packet) packet in
    named-then output_and_notes (piece_puts piece) (plain_puts paired (packet ∷ past) packets) (piece_named piece)
    (plain_named paired (packet ∷ past) packets)

pub returns_named : (options : BackOptions) (past : List (ℕ × ℕ)) (item : ℕ × ℕ) (puts : List Put) →
    (returning options).IsPut past item puts → AreNamed output_and_notes puts
returns_named options past item puts put =
    let A : List Put → Type 0 = λ ps. AreNamed output_and_notes ps in
    let before : List Packet = reverse (packets_up options.paired (Some options.room) options.group (bytes_read past)) in
    let lines : List Listed = lines_at options.paired (Some options.room) options.group (bytes_read past) item.1 in
    subst A (sym put)
    (named-then output_and_notes (byte_pieces options.paired options.room options.group past item) (line_puts lines)
    (plain_named options.paired before (byte_packets options.paired options.room options.group past item))
    (lines_named output_and_notes refl lines))

-- ---- the bytes in the output

output-piece : (piece : List ℕ) → output_in (piece_puts piece) ≡ piece
output-piece [] = refl
output-piece (byte ∷ bytes) = append-nil (byte ∷ bytes)

output-plain : (paired : Bool) (past packets : List Packet) → output_in (plain_puts paired past packets) ≡ pieces_of paired past packets
output-plain paired past [] = refl
output-plain paired past (packet ∷ packets) =
    let piece : List ℕ = plain_piece paired (whole_of past packet) packet in
    flat_map-append output_of (piece_puts piece) (plain_puts paired (packet ∷ past) packets)
    ∙ ap (λ xs. xs ++ output_in (plain_puts paired (packet ∷ past) packets)) (output-piece piece)
    ∙ ap (λ xs. piece ++ xs) (output-plain paired (packet ∷ past) packets)

output-byte : (options : BackOptions) (past : List (ℕ × ℕ)) (item : ℕ × ℕ) (puts : List Put) →
    (returning options).IsPut past item puts
    → output_in puts ≡ back_at options.paired (Some options.room) options.group (bytes_read past) item.1
output-byte options past item puts put =
    let before : List Packet = reverse (packets_up options.paired (Some options.room) options.group (bytes_read past)) in
    let packets : List Packet = byte_packets options.paired options.room options.group past item in
    let pieces : List Put = byte_pieces options.paired options.room options.group past item in
    let lines : List Put = byte_lines options.paired options.room options.group past item in
    ap output_in put
    ∙ flat_map-append output_of pieces lines
    ∙ ap (λ xs. output_in pieces ++ xs)
    (output-lines (lines_at options.paired (Some options.room) options.group (bytes_read past) item.1))
    ∙ append-nil (output_in pieces)
    ∙ output-plain options.paired before packets

output-all : (options : BackOptions) (past : List (ℕ × ℕ)) (puts : List Put) →
    ArePut (returning options) past puts
    → output_in puts ≡ back options.paired (Some options.room) options.group (bytes_read past)
output-all options [] puts put = ap output_in put
output-all options (item ∷ past) puts put =
    ap output_in put.4
    ∙ flat_map-append output_of put.0 put.1
    ∙ ap (λ xs. xs ++ output_in put.1) (output-all options past put.0 put.2)
    ∙ ap (λ xs. back options.paired (Some options.room) options.group (bytes_read past) ++ xs)
    (output-byte options past item put.1 put.3)

-- ---- the lines

notes-piece : (piece : List ℕ) → notes_in (piece_puts piece) ≡ []
notes-piece [] = refl
notes-piece (byte ∷ bytes) = refl

notes-plain : (paired : Bool) (past packets : List Packet) → notes_in (plain_puts paired past packets) ≡ []
notes-plain paired past [] = refl
notes-plain paired past (packet ∷ packets) =
    let piece : List ℕ = plain_piece paired (whole_of past packet) packet in
    flat_map-append notes_of (piece_puts piece) (plain_puts paired (packet ∷ past) packets)
    ∙ ap (λ xs. xs ++ notes_in (plain_puts paired (packet ∷ past) packets)) (notes-piece piece)
    ∙ notes-plain paired (packet ∷ past) packets

notes-all : (options : BackOptions) (past : List (ℕ × ℕ)) (puts : List Put) → ArePut (returning options) past puts
    → notes_in puts ≡ flat_map listing_text (lines_up options.paired (Some options.room) options.group (bytes_read past))
notes-all options [] puts put = ap notes_in put
notes-all options (item ∷ past) puts put =
    let bytes : List ℕ = bytes_read past in
    let packets_before : List Packet = reverse (packets_up options.paired (Some options.room) options.group bytes) in
    let packets : List Packet = byte_packets options.paired options.room options.group past item in
    let pieces : List Put = byte_pieces options.paired options.room options.group past item in
    let before : List Listed = lines_up options.paired (Some options.room) options.group bytes in
    let now : List Listed = lines_at options.paired (Some options.room) options.group bytes item.1 in
    ap notes_in put.4
    ∙ flat_map-append notes_of put.0 put.1
    ∙ ap (λ xs. xs ++ notes_in put.1) (notes-all options past put.0 put.2)
    ∙ ap (λ xs. flat_map listing_text before ++ xs)
    (ap notes_in put.3
    ∙ flat_map-append notes_of pieces (line_puts now)
    ∙ ap (λ xs. xs ++ notes_in (line_puts now)) (notes-plain options.paired packets_before packets)
    ∙ notes-lines now)
    ∙ sym (flat_map-append listing_text before now)

-- ---- the meaning

pub returned_means : (options : BackOptions) (up : UpState) (down : DownState) (past : List (ℕ × ℕ)) (puts : List Put)
    → HoldsBack options up down past → ArePut (returning options) past puts
    → (returning options).Means past puts
returned_means options up down past puts holds put =
    (output-all options past puts put, holds.law (bytes_read past) holds.accepted, notes-all options past puts put)
