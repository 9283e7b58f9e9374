-- What is put for the packets of an input is what the definitions of the whole input tell.
use Rattle.std.proofs.Common.{◌≡◌, ℕ, List, [], ◌∷◌, ◌++◌, Option, None, Some, refl, ap, sym, ◌∙◌, subst}
use Rattle.std.specs.Prelude.{IfSome, reverse}
use Rattle.std.specs.List.{flat_map}
use Rattle.std.proofs.lemmas.List.{append-nil, reverse-reverse}
use Rattle.std.proofs.lemmas.List.Concat.{flat_map-append}
use Rattle.packet_words.specs.declared.words.Framed.{Framed}
use Rattle.ump_grammar.specs.declared.packet.Packet.{Packet}
use Rattle.pass_loop.specs.Places.{Places, with_more}
use Rattle.pass_loop.specs.Put.{Put, notes_in, notes_of, pair_of, pairs_in}
use Rattle.packet_input.specs.Packets.{packet_cutting}
use Rattle.sysex8_streams.specs.History.{key_of}
use Rattle.sysex8_pass.specs.declared.lines.Kind8.TheVariants as kinds
use Rattle.sysex8_pass.specs.Joining.{group_puts, open_put, open_puts}
use Rattle.sysex8_pass.specs.Laws.{DoneJoinsTheInput}
use Rattle.sysex8_pass.specs.Lines.{kind_text}
use Rattle.sysex8_pass.specs.Listing.{below, open_line, open_lines}
use Rattle.sysex8_pass.specs.Parts.{open_since, parts_at}

-- what is put number by number

each-pairs : (f : ℕ → List Put) → ((n : ℕ) → pairs_in (f n) ≡ []) → (numbers : List ℕ) → pairs_in (flat_map f numbers) ≡ []
each-pairs f none [] = refl
each-pairs f none (n ∷ numbers) =
    flat_map-append pair_of (f n) (flat_map f numbers) ∙ ap (λ xs. xs ++ pairs_in (flat_map f numbers)) (none n) ∙ each-pairs f none numbers

each-notes : (f : ℕ → List Put) (g : ℕ → List ℕ) → ((n : ℕ) → notes_in (f n) ≡ g n) → (numbers : List ℕ)
    → notes_in (flat_map f numbers) ≡ flat_map g numbers
each-notes f g same [] = refl
each-notes f g same (n ∷ numbers) =
    flat_map-append notes_of (f n) (flat_map f numbers)
    ∙ ap (λ xs. xs ++ notes_in (flat_map f numbers)) (same n)
    ∙ ap (λ xs. g n ++ xs) (each-notes f g same numbers)

-- ---- what is open at the end

open-pairs : (group : ℕ) (start : Option ℕ) → pairs_in (open_put group start) ≡ []
open-pairs group None = refl
open-pairs group (Some start) = refl

open-notes : (group : ℕ) (start : Option ℕ) → notes_in (open_put group start) ≡ open_line group start
open-notes group None = refl
open-notes group (Some start) = append-nil (kind_text kinds.Open start group)

last-pairs : (starts : ℕ → Option ℕ) → pairs_in (open_puts starts) ≡ []
last-pairs starts =
    each-pairs (group_puts starts) (λ group. each-pairs (λ stream. open_put group (starts (key_of group stream)))
    (λ stream. open-pairs group (starts (key_of group stream))) (below 256))
    (below 16)

last-notes : (starts : ℕ → Option ℕ) → notes_in (open_puts starts) ≡ open_lines starts
last-notes starts =
    each-notes (group_puts starts) (λ group. flat_map (λ stream. open_line group (starts (key_of group stream))) (below 256))
    (λ group. each-notes (λ stream. open_put group (starts (key_of group stream)))
    (λ stream. open_line group (starts (key_of group stream))) (λ stream. open-notes group (starts (key_of group stream))) (below 256))
    (below 16)

-- ---- the whole input

pub joins_the_input : DoneJoinsTheInput
joins_the_input = λ options bytes old new told done.
    let C : Option (List ℕ) → Type 0 = λ left. IfSome left (λ b. packet_cutting options.order b done.items None × (new.left ≡ Some [])) in
    let cut = subst C told done.cut in
    let past : List (Framed × Packet) = reverse done.items in
    let starts : ℕ → Option ℕ = open_since options.slots options.room (parts_at past) in
    let K : List (Framed × Packet) → Type 0 = λ items. packet_cutting options.order bytes items None in
    let meaning = done.done.meaning in
    record {
      past = past;
      cut = subst K (sym (reverse-reverse done.items)) cut.0;
      pieces =
          ap (λ (s : Places). s.pieces) done.places
          ∙ ap (with_more old.places.pieces)
          (flat_map-append pair_of done.puts done.last
          ∙ ap (λ ps. pairs_in done.puts ++ pairs_in ps) done.at_end
          ∙ ap (λ xs. pairs_in done.puts ++ xs) (last-pairs starts)
          ∙ append-nil (pairs_in done.puts)
          ∙ meaning.pieces);
      alone = meaning.alone;
      notes =
          ap (λ (s : Places). s.notes) done.places
          ∙ ap (with_more old.places.notes)
          (flat_map-append notes_of done.puts done.last
          ∙ ap (λ ps. notes_in done.puts ++ notes_in ps) done.at_end
          ∙ ap (λ xs. notes_in done.puts ++ xs) (last-notes starts)
          ∙ ap (λ xs. xs ++ open_lines starts) meaning.lines);
      left = cut.1;
    }
