-- What is put for the items of an input is what the definitions of the whole input tell.
use Rattle.std.proofs.Common.{◌≡◌, ◌≢◌, ◌+◌, ℕ, List, [], ◌∷◌, ◌++◌, length, map, Option, None, Some, refl, ap, sym, ◌∙◌, subst}
use Rattle.std.specs.Prelude.{IfSome, reverse}
use Rattle.std.specs.List.{AllByRecursion, concat, flat_map}
use Rattle.std.proofs.lemmas.List.{append-nil, length-map, reverse-reverse}
use Rattle.std.proofs.lemmas.List.Concat.{flat_map-append}
use Rattle.item_reader.specs.Cut.{IsItem, items_from}
use Rattle.item_reader.specs.declared.cutting.Tail.{Tail}
use Rattle.item_reader.specs.declared.cutting.Tail.TheVariants.{End, Truncated, TooLong}
use Rattle.midi1_bytes.specs.Steps.{Step, completed_by, step_of}
use Rattle.midi_meaning.specs.StepListing.{kinds_at_end, kinds_of_step, line_up, open_pair}
use Rattle.listing_terms.specs.declared.listed.Listed.{Listed}
use Rattle.text_lines.specs.ListingLines.{listing_text}
use Rattle.pass_loop.specs.Bytes.{byte_cutting, bytes_read}
use Rattle.pass_loop.specs.Items.{limit, refusal_at}
use Rattle.pass_loop.specs.Pass.{ArePut, IsDone, Seen}
use Rattle.pass_loop.specs.Places.{Places, over_puts, with_more}
use Rattle.pass_loop.proofs.StreamInput.{ArePlaced, are-placed, turned-bytes}
use Rattle.pass_loop.specs.Put.{Put, notes_in, notes_of, output_in, output_of}
use Rattle.usb_midi1.specs.Events.{event_at, event_of, four_bytes}
use Rattle.usb_midi1.specs.Laws.{EventsAreThoseOfTheBytes}
use Rattle.usb_midi1.specs.Packing.{events_by, stream_events}
use Rattle.usb_midi1.specs.Split.{events_in, pieces_of}
use Rattle.usb_midi1.specs.declared.event.Event.{Event}
use Rattle.usb_passes.specs.Events.{event_cutting, events_of, placed_at}
use Rattle.usb_passes.specs.Laws.{DonePacksTheInput, DoneSplitsTheInput, PacksTheInput, lines_of, listing_of, reserved_from}
use Rattle.usb_passes.specs.Options.{PackOptions}
use Rattle.listing_lines.specs.ForProofs.LineLaws.{notes-lines, output-lines}
use Rattle.listing_lines.specs.Lines.{line_puts}
use Rattle.usb_passes.specs.Pack.{CarryTheMessages, event_puts, packing}
use Rattle.usb_passes.specs.Split.{reserved_lines}

at_end : (tail : Tail) → None ≡ refusal_at tail → tail ≡ End
at_end End none = refl
at_end (Truncated offset) none = cc
at_end TooLong none = cc

not_long : (tail : Tail) → tail ≡ End → tail ≢ TooLong
not_long tail is long = let e : End ≡ TooLong = sym is ∙ long in cc

-- ---- events

same-events : (at : ℕ) (chunks : List (List ℕ))
    → events_of (items_from placed_at at chunks) ≡ map (λ (item : Event × ℕ). item.0) (items_from event_at at chunks)
same-events at [] = refl
same-events at (chunk ∷ chunks) = ap (λ xs. event_of chunk ∷ xs) (same-events (at + length chunk) chunks)

same-lines : (at : ℕ) (chunks : List (List ℕ)) → AllByRecursion (IsItem four_bytes) chunks
    → flat_map reserved_lines (items_from placed_at at chunks) ≡ reserved_from at (events_of (items_from placed_at at chunks))
same-lines at [] each = refl
same-lines at (chunk ∷ chunks) each =
    ap (λ xs. reserved_lines (at, event_of chunk) ++ xs)
    (same-lines (at + length chunk) chunks each.1
    ∙ ap (λ n. reserved_from (at + n) (events_of (items_from placed_at (at + length chunk) chunks))) each.0)

module _ (law : EventsAreThoseOfTheBytes) (bytes : List ℕ) (items : List (ℕ × Event)) (cut : event_cutting bytes items None) where
  events-are : events_of items ≡ events_in bytes
  events-are =
      let into = cut.1 in
      ap events_of into.same ∙ same-events 0 into.chunks
      ∙ sym (law limit bytes (items_from event_at 0 into.chunks) cut.0 (record { chunks = into.chunks; cuts = into.cuts; same = refl })
      (not_long cut.0 (at_end cut.0 cut.2)))

  lines-are : flat_map reserved_lines items ≡ reserved_from 0 (events_in bytes)
  lines-are =
      let into = cut.1 in
      ap (flat_map reserved_lines) into.same
      ∙ same-lines 0 into.chunks into.cuts.each
      ∙ ap (λ xs. reserved_from 0 (events_of xs)) (sym into.same)
      ∙ ap (reserved_from 0) events-are

pub splits_the_input : EventsAreThoseOfTheBytes → DoneSplitsTheInput
splits_the_input law = λ bytes old new told done.
    let C : Option (List ℕ) → Type 0 = λ left. IfSome left (λ b. event_cutting b done.items None × (new.left ≡ Some [])) in
    let cut = subst C told done.cut in
    let items : List (ℕ × Event) = done.items in
    let meaning = done.done.meaning in
    let all : done.puts ++ done.last ≡ done.puts = ap (λ xs. done.puts ++ xs) done.at_end ∙ append-nil done.puts in
    let places : new.places ≡ over_puts done.puts old.places = done.places ∙ ap (λ puts. over_puts puts old.places) all in
    let turned : reverse (reverse items) ≡ items = reverse-reverse items in
    record {
      pieces =
          ap (λ (s : Places). s.pieces) places
          ∙ ap (with_more old.places.pieces) (meaning.0
          ∙ ap (λ xs. flat_map pieces_of (events_of xs)) turned
          ∙ ap (flat_map pieces_of) (events-are law bytes items cut.0));
      notes =
          ap (λ (s : Places). s.notes) places
          ∙ ap (with_more old.places.notes) (meaning.1 ∙ ap (flat_map reserved_lines) turned ∙ lines-are law bytes items cut.0);
      left = cut.1;
    }

-- ---- bytes

notes-events : (events : List (List ℕ)) → notes_in (event_puts events) ≡ []
notes-events [] = refl
notes-events (event ∷ events) = notes-events events

module _ (options : PackOptions) where
  notes-are : (past : List (ℕ × ℕ)) (puts : List Put) → ArePlaced past → ArePut (packing options) past puts
      → notes_in puts ≡ flat_map listing_text (lines_of (Some options.room) options.cable (bytes_read past))
  notes-are [] puts placed put = ap notes_in put
  notes-are (item ∷ past) puts placed put =
      let bytes : List ℕ = bytes_read past in
      let step : Step = step_of (Some options.room) bytes item.1 in
      let now : List Listed = map (line_up options.cable) (kinds_of_step step item.0) in
      let before : List Listed = lines_of (Some options.room) options.cable bytes in
      let at : item.0 ≡ length bytes = placed.0 ∙ sym (length-map past (λ (i : ℕ × ℕ). i.1)) in
      ap notes_in put.4
      ∙ flat_map-append notes_of put.0 put.1
      ∙ ap (λ xs. xs ++ notes_in put.1) (notes-are past put.0 placed.1 put.2)
      ∙ ap (λ ps. flat_map listing_text before ++ notes_in ps) put.3
      ∙ ap (λ xs. flat_map listing_text before ++ xs)
      (flat_map-append notes_of (event_puts (events_by options.cable (completed_by step))) (line_puts now)
      ∙ ap (λ xs. xs ++ notes_in (line_puts now)) (notes-events (events_by options.cable (completed_by step)))
      ∙ notes-lines now
      ∙ ap (λ n. flat_map listing_text (map (line_up options.cable) (kinds_of_step step n))) at)
      ∙ sym (flat_map-append listing_text before (map (line_up options.cable) (kinds_of_step step (length bytes))))

  pub packs_input : (bytes : List ℕ) (old new : Seen) → old.left ≡ Some bytes → IsDone byte_cutting (packing options) old new
      → PacksTheInput options bytes old new
  packs_input bytes old new told done =
      let C : Option (List ℕ) → Type 0 = λ left. IfSome left (λ b. byte_cutting b done.items None × (new.left ≡ Some [])) in
      let cut = subst C told done.cut in
      let items : List (ℕ × ℕ) = done.items in
      let past : List (ℕ × ℕ) = reverse items in
      let turned : bytes_read past ≡ reverse bytes = turned-bytes bytes items cut.0 in
      let placed : ArePlaced past = are-placed bytes items cut.0 in
      let last : List Listed = map (line_up options.cable) (kinds_at_end (open_pair (Some options.room) (bytes_read past))) in
      let lines : List ℕ → List Listed = λ xs. listing_of options xs in
      let M : List ℕ → List ℕ → Type 0 = λ xs output. CarryTheMessages options.cable xs output in
      let events : List ℕ → List ℕ = λ xs. concat (stream_events (Some options.room) options.cable xs) in
      let T : List ℕ → Type 0 = λ xs. CarryTheMessages options.cable xs (events xs) in
      record {
        output =
            ap (λ (s : Places). s.output) done.places
            ∙ ap (with_more old.places.output)
            (flat_map-append output_of done.puts done.last
            ∙ ap (λ ps. output_in done.puts ++ output_in ps) done.at_end
            ∙ ap (λ xs. output_in done.puts ++ xs) (output-lines last)
            ∙ append-nil (output_in done.puts)
            ∙ done.done.meaning.0
            ∙ ap events turned);
        messages = subst T turned (subst (M (bytes_read past)) done.done.meaning.0 done.done.meaning.1);
        notes =
            ap (λ (s : Places). s.notes) done.places
            ∙ ap (with_more old.places.notes)
            (flat_map-append notes_of done.puts done.last
            ∙ ap (λ ps. notes_in done.puts ++ notes_in ps) done.at_end
            ∙ ap (λ xs. xs ++ notes_in (line_puts last)) (notes-are past done.puts placed done.done.put)
            ∙ ap (λ xs. flat_map listing_text (lines_of (Some options.room) options.cable (bytes_read past)) ++ xs) (notes-lines last)
            ∙ sym (flat_map-append listing_text (lines_of (Some options.room) options.cable (bytes_read past)) last)
            ∙ ap (λ xs. flat_map listing_text (lines xs)) turned);
        left = cut.1;
      }

pub packs_the_input : DonePacksTheInput
packs_the_input = λ options bytes old new told done. packs_input options bytes old new told done
