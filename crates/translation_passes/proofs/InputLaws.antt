-- What is put for the items of an input is what the definitions of the whole input tell.
use Rattle.std.proofs.Common.{◌≡◌, ℕ, Bool, List, [], ◌∷◌, ◌++◌, map, take, Option, None, Some, refl, ap, sym, ◌∙◌, subst}
use Rattle.std.specs.Prelude.{IfSome, reverse}
use Rattle.std.specs.List.{flat_map}
use Rattle.std.proofs.lemmas.List.{append-nil, map-append, reverse-append, reverse-reverse}
use Rattle.std.proofs.lemmas.List.Concat.{flat_map-append}
use Rattle.packet_words.specs.declared.words.Framed.{Framed}
use Rattle.ump_grammar.specs.declared.packet.Packet.{Packet}
use Rattle.midi_meaning.specs.declared.listed.Listed.{Listed}
use Rattle.midi_meaning.specs.Agreement.{Agrees}
use Rattle.midi_meaning.specs.Back.{SameState, back, back_of_bytes}
use Rattle.midi_meaning.specs.Listing.{end_lines, lines_over}
use Rattle.midi_meaning.specs.Messages.{mean1}
use Rattle.midi_meaning.specs.Packets.{mean2}
use Rattle.midi_meaning.specs.Parts.{Placed, parts_of}
use Rattle.midi_meaning.specs.Raising.{packets_of_bytes, packets_up}
use Rattle.midi_meaning.specs.StepListing.{kinds_at_end, line_up, lines_up, lines_up_to_end, listing_of_bytes, open_pair}
use Rattle.midi_meaning.specs.Styles.{styled_over, styled_pairs}
use Rattle.midi_meaning.specs.Translation.{IsTranslation}
use Rattle.text_lines.specs.ListingLines.{listing_text}
use Rattle.down_translator.specs.Recording.{packets_of}
use Rattle.pass_loop.specs.Bytes.{byte_cutting, bytes_read}
use Rattle.pass_loop.specs.Places.{Places, with_more}
use Rattle.pass_loop.specs.Put.{Put, in_lane, in_notes, in_output, notes_in, notes_of, output_in, output_of, pair_of, pairs_in}
use Rattle.listing_lines.specs.ForProofs.LineLaws.{notes-lines, output-lines, pairs-lines}
use Rattle.packet_input.specs.Packets.{packet_cutting}
use Rattle.packet_input.specs.Placed.{all_placed, placed_of}
use Rattle.packet_input.specs.Written.{AreWritten}
use Rattle.translation_passes.specs.Laws.{DoneCarriesTheInput, DoneRaisesTheInput, DoneReturnsTheInput, packets_in}
use Rattle.translation_passes.specs.Raised.{last_lines, output_puts}
use Rattle.translation_passes.specs.Up.{RaisedMean}
use Rattle.translation_passes.specs.Back.{ReturnedMean}
use Rattle.pass_loop.proofs.StreamInput.{turned-bytes}

-- ---- packets

placed-turned : (items : List (Framed × Packet)) → all_placed (reverse items) ≡ reverse (all_placed items)
placed-turned [] = refl
placed-turned (item ∷ items) =
    ap all_placed (reverse-append (item ∷ []) items)
    ∙ map-append placed_of (reverse items) (item ∷ [])
    ∙ ap (λ xs. xs ++ placed_of item ∷ []) (placed-turned items)
    ∙ sym (reverse-append (placed_of item ∷ []) (all_placed items))

packets-turned : (items : List (Framed × Packet)) → packets_of (all_placed (reverse items)) ≡ reverse (packets_in items)
packets-turned [] = refl
packets-turned (item ∷ items) =
    ap (λ xs. packets_of (all_placed xs)) (reverse-append (item ∷ []) items)
    ∙ ap packets_of (map-append placed_of (reverse items) (item ∷ []))
    ∙ map-append (λ (placed : Placed). placed.packet) (all_placed (reverse items)) (placed_of item ∷ [])
    ∙ ap (λ xs. xs ++ item.1 ∷ []) (packets-turned items)
    ∙ sym (reverse-append (item.1 ∷ []) (packets_in items))

pub carries_the_input : DoneCarriesTheInput
carries_the_input = λ options bytes old new told done.
    let C : Option (List ℕ) → Type 0 = λ left. IfSome left (λ b. packet_cutting options.order b done.items None × (new.left ≡ Some [])) in
    let cut = subst C told done.cut in
    let past : List (Framed × Packet) = reverse done.items in
    let packets : List Packet = packets_in done.items in
    let meaning = done.done.meaning in
    let last : List Listed = end_lines (Some options.room) (parts_of (all_placed past)) in
    let pairs : pairs_in done.puts ≡ styled_pairs options.paired options.style packets =
    meaning.0 ∙ ap (styled_over options.paired options.style) (packets-turned done.items) in
    let turned : reverse (packets_of (all_placed past)) ≡ packets = ap reverse (packets-turned done.items) ∙ reverse-reverse packets in
    let T : List Packet → List (ℕ × List ℕ) → Type 0 = λ ps qs. IsTranslation options.paired ps qs in
    let L : List Placed → List Listed =
    λ xs. lines_over options.paired (Some options.room) xs ++ end_lines (Some options.room) (parts_of xs) in
    record {
      items = done.items;
      cut = cut.0;
      pieces =
          ap (λ (s : Places). s.pieces) done.places
          ∙ ap (with_more old.places.pieces)
          (flat_map-append pair_of done.puts done.last
          ∙ ap (λ ps. pairs_in done.puts ++ pairs_in ps) done.at_end
          ∙ ap (λ xs. pairs_in done.puts ++ xs) (pairs-lines last)
          ∙ append-nil (pairs_in done.puts)
          ∙ pairs);
      translation = subst (T packets) pairs (subst (λ ps. T ps (pairs_in done.puts)) turned meaning.1);
      notes =
          ap (λ (s : Places). s.notes) done.places
          ∙ ap (with_more old.places.notes)
          (flat_map-append notes_of done.puts done.last
          ∙ ap (λ xs. xs ++ notes_in done.last) meaning.2
          ∙ ap (λ ps. flat_map listing_text (lines_over options.paired (Some options.room) (all_placed past)) ++ notes_in ps) done.at_end
          ∙ ap (λ xs. flat_map listing_text (lines_over options.paired (Some options.room) (all_placed past)) ++ xs) (notes-lines last)
          ∙ sym (flat_map-append listing_text (lines_over options.paired (Some options.room) (all_placed past)) last)
          ∙ ap (λ xs. flat_map listing_text (L xs)) (placed-turned done.items));
      left = cut.1;
    }

-- ---- bytes

-- the lines of what is put, and then those of what is open at the end
listed-all : (paired : Bool) (room group : ℕ) (past : List (ℕ × ℕ)) (bytes : List ℕ) (puts last : List Put)
    → bytes_read past ≡ reverse bytes
    → notes_in puts ≡ flat_map listing_text (lines_up paired (Some room) group (bytes_read past))
    → last ≡ last_lines room group past
    → notes_in (puts ++ last) ≡ flat_map listing_text (listing_of_bytes paired (Some room) group bytes)
listed-all paired room group past bytes puts last turned notes is =
    let before : List Listed = lines_up paired (Some room) group (bytes_read past) in
    let begun : List Listed = map (line_up group) (kinds_at_end (open_pair (Some room) (bytes_read past))) in
    flat_map-append notes_of puts last
    ∙ ap (λ xs. xs ++ notes_in last) notes
    ∙ ap (λ xs. flat_map listing_text before ++ xs) (ap notes_in is ∙ notes-lines begun)
    ∙ sym (flat_map-append listing_text before begun)
    ∙ ap (λ xs. flat_map listing_text (lines_up_to_end paired (Some room) group xs)) turned

-- at the end nothing more comes in the output
output-all : (room group : ℕ) (past : List (ℕ × ℕ)) (puts last : List Put) → last ≡ last_lines room group past
    → output_in (puts ++ last) ≡ output_in puts
output-all room group past puts last is =
    flat_map-append output_of puts last
    ∙ ap (λ ps. output_in puts ++ output_in ps) is
    ∙ ap (λ xs. output_in puts ++ xs) (output-lines (map (line_up group) (kinds_at_end (open_pair (Some room) (bytes_read past)))))
    ∙ append-nil (output_in puts)

-- the bytes in the output are those of the puts in it
output-puts : (puts : List Put) → output_in (output_puts puts) ≡ output_in puts
output-puts [] = refl
output-puts (in_output text ∷ puts) = ap (λ xs. text ++ xs) (output-puts puts)
output-puts (in_lane lane piece ∷ puts) = output-puts puts
output-puts (in_notes text ∷ puts) = output-puts puts

pub raises_the_input : DoneRaisesTheInput
raises_the_input = λ options bytes old new told done.
    let C : Option (List ℕ) → Type 0 = λ left. IfSome left (λ b. byte_cutting b done.items None × (new.left ≡ Some [])) in
    let cut = subst C told done.cut in
    let past : List (ℕ × ℕ) = reverse done.items in
    let turned : bytes_read past ≡ reverse bytes = turned-bytes bytes done.items cut.0 in
    let meaning = done.done.meaning in
    let W : List ℕ → Type 0 =
    λ xs. AreWritten options.order (packets_up options.paired (Some options.room) options.group xs) (output_puts done.puts) in
    let M : List ℕ → Type 0 = λ xs. RaisedMean options.paired options.room options.group xs in
    let A : List ℕ → Type 0 = λ xs. (count : ℕ) → Agrees options.paired (mean1 options.paired (take count xs))
    (mean2 options.paired (packets_of_bytes options.paired (Some options.room) options.group (take count xs)) options.group) in
    record {
      written = output_puts done.puts;
      packets = subst W turned meaning.0;
      output =
          ap (λ (s : Places). s.output) done.places
          ∙ ap (with_more old.places.output)
          (output-all options.room options.group past done.puts done.last done.at_end ∙ sym (output-puts done.puts));
      agrees = subst A (reverse-reverse bytes) (subst M turned meaning.1);
      notes =
          ap (λ (s : Places). s.notes) done.places
          ∙ ap (with_more old.places.notes)
          (listed-all options.paired options.room options.group past bytes done.puts done.last turned meaning.2 done.at_end);
      left = cut.1;
    }

pub returns_the_input : DoneReturnsTheInput
returns_the_input = λ options bytes old new told done.
    let C : Option (List ℕ) → Type 0 = λ left. IfSome left (λ b. byte_cutting b done.items None × (new.left ≡ Some [])) in
    let cut = subst C told done.cut in
    let past : List (ℕ × ℕ) = reverse done.items in
    let turned : bytes_read past ≡ reverse bytes = turned-bytes bytes done.items cut.0 in
    let meaning = done.done.meaning in
    let M : List ℕ → Type 0 = λ xs. ReturnedMean options.paired options.room options.group xs in
    let S : List ℕ → Type 0 = λ xs. (count : ℕ)
    → SameState (mean1 options.paired (back_of_bytes options.paired (Some options.room) options.group (take count xs)))
    (mean1 options.paired (take count xs)) in
    record {
      output =
          ap (λ (s : Places). s.output) done.places
          ∙ ap (with_more old.places.output)
          (output-all options.room options.group past done.puts done.last done.at_end
          ∙ meaning.0
          ∙ ap (back options.paired (Some options.room) options.group) turned);
      same = subst S (reverse-reverse bytes) (subst M turned meaning.1);
      notes =
          ap (λ (s : Places). s.notes) done.places
          ∙ ap (with_more old.places.notes)
          (listed-all options.paired options.room options.group past bytes done.puts done.last turned meaning.2 done.at_end);
      left = cut.1;
    }
