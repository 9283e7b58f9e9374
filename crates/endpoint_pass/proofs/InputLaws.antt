-- What is put for the packets of an input is what the definitions of the whole input tell.
use Rattle.std.proofs.Common.{◌≡◌, ℕ, List, [], ◌++◌, Option, None, Some, ap, sym, ◌∙◌, subst}
use Rattle.std.specs.Prelude.{IfSome, reverse}
use Rattle.std.proofs.lemmas.List.{append-nil, reverse-reverse}
use Rattle.std.proofs.lemmas.List.Concat.{flat_map-append}
use Rattle.packet_words.specs.declared.words.Framed.{Framed}
use Rattle.ump_grammar.specs.declared.packet.Packet.{Packet}
use Rattle.pass_loop.specs.Places.{Places, with_more}
use Rattle.pass_loop.specs.Put.{notes_in, notes_of, output_in, output_of}
use Rattle.packet_input.specs.Packets.{packet_cutting}
use Rattle.packet_input.specs.Placed.{all_placed}
use Rattle.endpoint_pass.specs.Answering.{packet_lines_over}
use Rattle.endpoint_pass.specs.ForProofs.AnsweringMeans.{closing_output}
use Rattle.endpoint_pass.specs.Laws.{DoneAnswersTheInput}

pub answers_the_input : DoneAnswersTheInput
answers_the_input = λ options bytes old new told done.
    let C : Option (List ℕ) → Type 0 = λ left. IfSome left (λ b. packet_cutting options.order b done.items None × (new.left ≡ Some [])) in
    let cut = subst C told done.cut in
    let past : List (Framed × Packet) = reverse done.items in
    let K : List (Framed × Packet) → Type 0 = λ items. packet_cutting options.order bytes items None in
    let meaning = done.done.meaning in
    record {
      past = past;
      cut = subst K (sym (reverse-reverse done.items)) cut.0;
      replies = output_in done.puts;
      are_replies = meaning.0;
      output =
          ap (λ (s : Places). s.output) done.places
          ∙ ap (with_more old.places.output)
          (flat_map-append output_of done.puts done.last
          ∙ ap (λ ps. output_in done.puts ++ output_in ps) done.at_end
          ∙ ap (λ xs. output_in done.puts ++ xs) (closing_output options.setup options.room (all_placed past))
          ∙ append-nil (output_in done.puts));
      notes =
          ap (λ (s : Places). s.notes) done.places
          ∙ ap (with_more old.places.notes)
          (flat_map-append notes_of done.puts done.last
          ∙ ap (λ xs. xs ++ notes_in done.last) meaning.1
          ∙ ap (λ ps. packet_lines_over options.setup options.room (all_placed past) ++ notes_in ps) done.at_end);
      left = cut.1;
    }
