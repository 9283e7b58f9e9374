-- What is put for packets means what they mean.
use Rattle.std.proofs.Common.{◌≡◌, ℕ, Bool, List, [], ◌∷◌, ◌++◌, refl, ap, sym, ◌∙◌, subst}
use Rattle.std.specs.Prelude.{reverse, Some, true, false}
use Rattle.std.specs.List.{AllByRecursion, flat_map}
use Rattle.std.specs.Option.{option_to_list}
use Rattle.std.proofs.lemmas.List.{append-nil, reverse-append}
use Rattle.std.proofs.lemmas.List.Concat.{flat_map-append}
use mathlib.Core.List.{reverse-cons}
use Rattle.packet_words.specs.declared.words.Framed.{Framed}
use Rattle.ump_grammar.specs.declared.packet.Packet.{Packet}
use Rattle.midi_meaning.specs.declared.listed.Listed.{Listed}
use Rattle.text_lines.specs.ListingLines.{listing_text}
use Rattle.midi_meaning.specs.Listing.{end_lines, line_of, lines_over}
use Rattle.midi_meaning.specs.Packets.{IsInRange}
use Rattle.midi_meaning.specs.Parts.{Placed, parts_of}
use Rattle.midi_meaning.specs.Styles.{Style, styled_over, styled_pair}
use Rattle.midi_meaning.specs.Translation.{IsTranslation}
use Rattle.down_translator.specs.Held.{DownState, paired_of, style_of}
use Rattle.down_translator.specs.Recording.{AreInRange, packets_of}
use Rattle.pass_loop.specs.Named.{AreNamed}
use Rattle.pass_loop.specs.Pass.{ArePut}
use Rattle.pass_loop.specs.Put.{Put, notes_in, notes_of, pair_of as pair_in, pairs_in}
use Rattle.listing_lines.specs.ForProofs.LineLaws.{lines_named, notes-lines, pairs-lines}
use Rattle.listing_lines.specs.Lines.{line_puts}
use Rattle.translation_passes.specs.Down.{HoldsDown, IsReadyDown, carried_puts, carrying, down_options, pair_puts}
use Rattle.translation_passes.specs.Options.{DownOptions}
use Rattle.packet_input.specs.Placed.{all_placed, placed_of}

pub carries_nothing : (first : DownState) → IsReadyDown first → HoldsDown first first []
carries_nothing first ready =
    record { least = ready.least; translates = ready.translates; range = tt; accepted = tt; state_is = ready.empty }

-- lines and pairs go to the notes and the lanes
pub carried_named : (pairs : List (ℕ × List ℕ)) (lines : List Listed) →
    AreNamed (record { lanes = true; output = false; notes = true }) (pair_puts pairs ++ line_puts lines)
carried_named [] lines = lines_named (record { lanes = true; output = false; notes = true }) refl lines
carried_named (pair ∷ pairs) lines = (refl, carried_named pairs lines)

pub carries_named : (options : DownOptions) (past : List (Framed × Packet)) (item : Framed × Packet) (puts : List Put)
    → (carrying options).IsPut past item puts → AreNamed (carrying options).names puts
carries_named options past item puts put =
    let A : List Put → Type 0 = λ ps. AreNamed (carrying options).names ps in
    subst A (sym put) (carried_named (styled_pair options.paired options.style
    (styled_over options.paired options.style (packets_of (all_placed past))) (packets_of (all_placed past)) item.1)
    (option_to_list (line_of options.paired (Some options.room) (parts_of (all_placed past)) (placed_of item))))

pub ends_named : (options : DownOptions) (past : List (Framed × Packet)) (puts : List Put) →
    (carrying options).IsPutAtEnd past puts → AreNamed (carrying options).names puts
ends_named options past puts put =
    let A : List Put → Type 0 = λ ps. AreNamed (carrying options).names ps in
    subst A (sym put) (lines_named (carrying options).names refl (end_lines (Some options.room) (parts_of (all_placed past))))

pairs-pairs : (pairs : List (ℕ × List ℕ)) → pairs_in (pair_puts pairs) ≡ pairs
pairs-pairs [] = refl
pairs-pairs (pair ∷ pairs) = ap (λ ps. pair ∷ ps) (pairs-pairs pairs)

pairs-carried : (paired : Bool) (style : Style) (room : ℕ) (past : List Placed) (placed : Placed) →
    pairs_in (carried_puts paired style room past placed)
    ≡ styled_pair paired style (styled_over paired style (packets_of past)) (packets_of past) placed.packet
pairs-carried paired style room past placed =
    let pairs : List (ℕ × List ℕ) = styled_pair paired style (styled_over paired style (packets_of past)) (packets_of past) placed.packet in
    let lines : List Listed = option_to_list (line_of paired (Some room) (parts_of past) placed) in
    flat_map-append pair_in (pair_puts pairs) (line_puts lines)
    ∙ ap (λ ps. ps ++ pairs_in (line_puts lines)) (pairs-pairs pairs)
    ∙ ap (λ ps. pairs ++ ps) (pairs-lines lines)
    ∙ append-nil pairs

pairs-put : (options : DownOptions) (past : List (Framed × Packet)) (puts : List Put) →
    ArePut (carrying options) past puts → pairs_in puts ≡ styled_over options.paired options.style (packets_of (all_placed past))
pairs-put options [] puts put = ap pairs_in put
pairs-put options (item ∷ past) puts put =
    ap pairs_in put.4
    ∙ flat_map-append pair_in put.0 put.1
    ∙ ap (λ ps. ps ++ pairs_in put.1) (pairs-put options past put.0 put.2)
    ∙ ap (λ ps. styled_over options.paired options.style (packets_of (all_placed past)) ++ ps)
    (ap pairs_in put.3 ∙ pairs-carried options.paired options.style options.room (all_placed past) (placed_of item))

-- ---- the lines

notes-pairs : (pairs : List (ℕ × List ℕ)) → notes_in (pair_puts pairs) ≡ []
notes-pairs [] = refl
notes-pairs (pair ∷ pairs) = notes-pairs pairs

notes-carried : (paired : Bool) (style : Style) (room : ℕ) (past : List Placed) (placed : Placed) →
    notes_in (carried_puts paired style room past placed)
    ≡ flat_map listing_text (option_to_list (line_of paired (Some room) (parts_of past) placed))
notes-carried paired style room past placed =
    let pairs : List (ℕ × List ℕ) = styled_pair paired style (styled_over paired style (packets_of past)) (packets_of past) placed.packet in
    let lines : List Listed = option_to_list (line_of paired (Some room) (parts_of past) placed) in
    flat_map-append notes_of (pair_puts pairs) (line_puts lines)
    ∙ ap (λ xs. xs ++ notes_in (line_puts lines)) (notes-pairs pairs)
    ∙ notes-lines lines

notes-put : (options : DownOptions) (past : List (Framed × Packet)) (puts : List Put) →
    ArePut (carrying options) past puts
    → notes_in puts ≡ flat_map listing_text (lines_over options.paired (Some options.room) (all_placed past))
notes-put options [] puts put = ap notes_in put
notes-put options (item ∷ past) puts put =
    let before : List Listed = lines_over options.paired (Some options.room) (all_placed past) in
    let now : List Listed =
    option_to_list (line_of options.paired (Some options.room) (parts_of (all_placed past)) (placed_of item)) in
    ap notes_in put.4
    ∙ flat_map-append notes_of put.0 put.1
    ∙ ap (λ xs. xs ++ notes_in put.1) (notes-put options past put.0 put.2)
    ∙ ap (λ xs. flat_map listing_text before ++ xs)
    (ap notes_in put.3 ∙ notes-carried options.paired options.style options.room (all_placed past) (placed_of item))
    ∙ sym (flat_map-append listing_text before now)

-- ---- the meaning

in_order : (past : List (Framed × Packet)) → AreInRange (all_placed past) →
    AllByRecursion IsInRange (packets_of (all_placed past))
in_order [] range = tt
in_order (item ∷ past) range = (range.0, in_order past range.1)

range-push : (packets : List Packet) (packet : Packet) → AllByRecursion IsInRange packets → IsInRange packet →
    AllByRecursion IsInRange (packets ++ packet ∷ [])
range-push [] packet range one = (one, tt)
range-push (p ∷ packets) packet range one = (range.0, range-push packets packet range.1 one)

range-reverse : (packets : List Packet) → AllByRecursion IsInRange packets →
    AllByRecursion IsInRange (reverse packets)
range-reverse [] range = tt
range-reverse (p ∷ packets) range =
    let A : List Packet → Type 0 = λ ps. AllByRecursion IsInRange ps in
    subst A (sym (reverse-cons p packets))
    (range-push (reverse packets) p (range-reverse packets range.1) range.0)

twice : (packets : List Packet) → reverse (reverse packets) ≡ packets
twice [] = refl
twice (p ∷ packets) =
    ap reverse (reverse-cons p packets) ∙ reverse-append (reverse packets) (p ∷ [])
    ∙ ap (λ ps. p ∷ ps) (twice packets)

pub carries_means : (first now : DownState) (past : List (Framed × Packet)) (puts : List Put) →
    HoldsDown first now past → ArePut (carrying (down_options first)) past puts →
    (carrying (down_options first)).Means past puts
carries_means first now past puts holds put =
    let packets : List Packet = packets_of (all_placed past) in
    let pairs : pairs_in puts ≡ styled_over (paired_of first) (style_of first) packets = pairs-put (down_options first) past puts put in
    let T : List (ℕ × List ℕ) → Type 0 = λ ps. IsTranslation (paired_of first) (reverse packets) ps in (
      pairs,
      subst T (ap (styled_over (paired_of first) (style_of first)) (twice packets) ∙ sym pairs)
          (holds.translates (style_of first) (reverse packets) (range-reverse packets (in_order past holds.range))),
      notes-put (down_options first) past puts put,
    )
