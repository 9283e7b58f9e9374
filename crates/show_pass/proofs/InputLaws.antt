-- What is put for the items of an input is what the definitions of the whole input tell.
use Rattle.std.proofs.Common.{◌≡◌, ℕ, false, List, [], ◌∷◌, ◌++◌, length, Option, None, Some, refl, ap, sym, ◌∙◌, subst}
use Rattle.std.specs.Prelude.{IfSome, reverse}
use Rattle.std.specs.Option.{option_map}
use Rattle.std.proofs.lemmas.List.{length-map}
use Rattle.std.proofs.lemmas.List.Concat.{flat_map-append}
use Rattle.packet_words.specs.declared.words.Framed.{Framed}
use Rattle.ump_grammar.specs.declared.packet.Packet.{Packet}
use Rattle.midi1_bytes.specs.Steps.{Step, step_of}
use Rattle.midi1_bytes.specs.Stream.{Open, open_at_end}
use Rattle.midi_meaning.specs.Messages.{as_they_come, meaning1, raised}
use Rattle.midi_meaning.specs.Packets.{meaning2}
use Rattle.midi_meaning.specs.StepListing.{kinds_at_end}
use Rattle.voice_state.specs.Facts.{facts_of}
use Rattle.voice_state.specs.States.{states_of_stream}
use Rattle.voice_state.specs.declared.fact.Fact.{Fact}
use Rattle.down_translator.specs.Recording.{packets_of}
use Rattle.pass_loop.specs.Bytes.{byte_cutting, bytes_read}
use Rattle.pass_loop.specs.Places.{Places, with_more}
use Rattle.pass_loop.specs.Put.{output_in, output_of}
use Rattle.pass_loop.proofs.StreamInput.{ArePlaced, are-placed, turned-bytes}
use Rattle.packet_input.specs.Packets.{packet_cutting}
use Rattle.packet_input.specs.Placed.{all_placed}
use Rattle.show_pass.specs.KeptState.{state_puts}
use Rattle.show_pass.specs.Laws.{DoneShowsTheRecording, DoneShowsTheStream}
use Rattle.show_pass.specs.ShowBytes.{open_puts}
use Rattle.show_pass.specs.ShownLines.{shown_bytes, shown_items, shown_open, shown_packets, shown_step, shown_stream}
use Rattle.show_pass.specs.ForProofs.ShowMeans.{output-listing, output-state}

-- ---- packets

pub shows_the_recording : DoneShowsTheRecording
shows_the_recording = λ options bytes old new told done.
    let C : Option (List ℕ) → Type 0 = λ left. IfSome left (λ b. packet_cutting options.order b done.items None × (new.left ≡ Some [])) in
    let cut = subst C told done.cut in
    let past : List (Framed × Packet) = reverse done.items in
    let facts : List Fact = facts_of raised (meaning2 false (packets_of (all_placed past))) in
    record {
      items = done.items;
      cut = cut.0;
      output =
          ap (λ (s : Places). s.output) done.places
          ∙ ap (with_more old.places.output)
          (flat_map-append output_of done.puts done.last
          ∙ ap (λ xs. xs ++ output_in done.last) done.done.meaning
          ∙ ap (λ xs. shown_packets past ++ xs) (ap output_in done.at_end ∙ output-state options.state facts));
      left = cut.1;
    }

-- ---- bytes

-- a byte's offset is the number of bytes before it
same-lines : (room : ℕ) (past : List (ℕ × ℕ)) → ArePlaced past → shown_items room past ≡ shown_bytes room (bytes_read past)
same-lines room [] placed = refl
same-lines room (item ∷ past) placed =
    let step : Step = step_of (Some room) (bytes_read past) item.1 in
    let at : item.0 ≡ length (bytes_read past) = placed.0 ∙ sym (length-map past (λ (i : ℕ × ℕ). i.1)) in
    ap (λ xs. xs ++ shown_step step item.0) (same-lines room past placed.1)
    ∙ ap (λ n. shown_bytes room (bytes_read past) ++ shown_step step n) at

pub shows_the_stream : DoneShowsTheStream
shows_the_stream = λ options bytes old new told done.
    let C : Option (List ℕ) → Type 0 = λ left. IfSome left (λ b. byte_cutting b done.items None × (new.left ≡ Some [])) in
    let cut = subst C told done.cut in
    let past : List (ℕ × ℕ) = reverse done.items in
    let turned : bytes_read past ≡ reverse bytes = turned-bytes bytes done.items cut.0 in
    let begun : Option Open = open_at_end (Some options.room) (bytes_read past) in
    let facts : List Fact = facts_of as_they_come (states_of_stream (meaning1 false (bytes_read past))) in
    record {
      output =
          ap (λ (s : Places). s.output) done.places
          ∙ ap (with_more old.places.output)
          (flat_map-append output_of done.puts done.last
          ∙ ap (λ xs. xs ++ output_in done.last)
          (done.done.meaning ∙ same-lines options.room past (are-placed bytes done.items cut.0))
          ∙ ap (λ xs. shown_bytes options.room (bytes_read past) ++ xs)
          (ap output_in done.at_end
          ∙ flat_map-append output_of (open_puts begun) (state_puts options.state facts)
          ∙ ap (λ xs. xs ++ output_in (state_puts options.state facts))
          (output-listing (kinds_at_end (option_map (λ b. (b.start, b.kind)) begun)))
          ∙ ap (λ xs. shown_open begun ++ xs) (output-state options.state facts))
          ∙ ap (shown_stream options.room options.state) turned);
      left = cut.1;
    }
