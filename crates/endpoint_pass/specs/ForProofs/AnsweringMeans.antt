-- What is put for the packets of a peer goes to the output and the notes, and is the replies and the lines of all packets.
use Rattle.std.proofs.Common.{◌≡◌, ℕ, Bool, true, false, List, [], ◌∷◌, ◌++◌, ◌+◌, Option, Some, None, refl, ap, sym, ◌∙◌, subst}
use Rattle.std.specs.Prelude.{if◌then◌else◌}
use Rattle.std.specs.Option.{option_to_list}
use Rattle.std.proofs.lemmas.Bool.{false≢true}
use Rattle.std.proofs.lemmas.List.{append-nil}
use Rattle.std.proofs.lemmas.List.Concat.{flat_map-append}
use Rattle.packet_words.specs.declared.words.Order.{Order}
use Rattle.packet_words.specs.declared.words.Framed.{Framed}
use Rattle.ump_grammar.specs.declared.packet.Packet.{Packet}
use Rattle.function_blocks.specs.Blocks.{has_ci}
use Rattle.function_blocks.specs.Setups.{SetupData}
use Rattle.function_blocks.specs.declared.setup.Block.{Block}
use Rattle.ci_responder.specs.History.{muid_at, on_at}
use Rattle.ci_responder.specs.Messages.{Received}
use Rattle.ci_text.specs.ForProofs.ProfileLaws.{profiles_named}
use Rattle.ci_text.specs.Profiles.{profile_lines}
use Rattle.ci_text.specs.declared.profiles.LinePlace.TheVariants.{Notes}
use Rattle.listing_terms.specs.ExclusiveLines.{end_lines}
use Rattle.listing_terms.specs.Parts.{Placed, parts_of}
use Rattle.listing_terms.specs.declared.listed.Listed.{Listed}
use Rattle.endpoint_lines.specs.EndpointLines.{block_text}
use Rattle.pass_loop.specs.Each.{for_each}
use Rattle.pass_loop.specs.Named.{AreNamed, Named, named-then}
use Rattle.pass_loop.specs.Pass.{ArePut}
use Rattle.pass_loop.specs.Put.{Put, in_lane, in_notes, in_output, notes_in, notes_of, output_in, output_of}
use Rattle.listing_lines.specs.ForProofs.LineLaws.{lines_named}
use Rattle.listing_lines.specs.Lines.{line_puts}
use Rattle.packet_input.specs.Placed.{all_placed, placed_of}
use Rattle.packet_input.specs.Written.{AreWritten, output_and_notes}
use Rattle.packet_input.specs.ForProofs.WrittenLaws.{written-then, written_named}
use Rattle.ump_endpoint.specs.Answers.{packet_listed, packet_outcome, packet_replies, received_in_packets}
use Rattle.ump_endpoint.specs.declared.taken.Outcome.{Outcome}
use Rattle.endpoint_pass.specs.Answering.{AreBytesOf, answering, block_line_of, closing_lines, packet_lines_over, outcome_lines}
use Rattle.endpoint_pass.specs.Answering.{packet_lines, replies_over}
use Rattle.endpoint_pass.specs.Options.{EndpointOptions}

-- ---- the lines, which go to the notes alone

abbrev notes_alone : Named
notes_alone = record { lanes = false; output = false; notes = true }

abbrev AreNotes : List Put → Type 0
AreNotes puts = AreNamed notes_alone puts

are_named : (puts : List Put) → AreNotes puts → AreNamed output_and_notes puts
are_named [] notes = tt
are_named (in_notes text ∷ puts) notes = (refl, are_named puts notes.1)
are_named (in_output text ∷ puts) notes = absurd (false≢true notes.0)
are_named (in_lane lane piece ∷ puts) notes = absurd (false≢true notes.0)

no_output : (puts : List Put) → AreNotes puts → output_in puts ≡ []
no_output [] notes = refl
no_output (in_notes text ∷ puts) notes = no_output puts notes.1
no_output (in_output text ∷ puts) notes = absurd (false≢true notes.0)
no_output (in_lane lane piece ∷ puts) notes = absurd (false≢true notes.0)

outcome_notes : (offset : ℕ) (packet : Packet) (outcome : Option Outcome) → AreNotes (outcome_lines offset packet outcome)
outcome_notes offset packet None = tt
outcome_notes offset packet (Some outcome) = (refl, tt)

packet_notes : (setup : SetupData) (room : ℕ) (past : List Placed) (placed : Placed) → AreNotes (packet_lines setup room past placed)
packet_notes setup room past placed =
    let outcome : Option Outcome = packet_outcome setup room past placed in
    let listed : List Listed = option_to_list (packet_listed room past placed) in
    named-then notes_alone (outcome_lines placed.offset placed.packet outcome) (line_puts listed)
    (outcome_notes placed.offset placed.packet outcome) (lines_named notes_alone refl listed)

each_notes : {X : Type 0} (put : ℕ → X → List Put) → ((n : ℕ) (x : X) → AreNotes (put n x)) →
    (number : ℕ) (xs : List X) → AreNotes (for_each put number xs)
each_notes put notes number [] = tt
each_notes put notes number (x ∷ xs) =
    named-then notes_alone (put number x) (for_each put (number + 1) xs) (notes number x) (each_notes put notes (number + 1) xs)

block_notes : (muid : ℕ → Option ℕ) (number : ℕ) (block : Block) → AreNotes (block_line_of muid number block)
block_notes muid number block = by_ci (has_ci block)
  where
    by_ci : (is : Bool) → AreNotes (if is then in_notes (block_text number (muid number)) ∷ [] else [])
    by_ci true = (refl, tt)
    by_ci false = tt

closing_notes : (setup : SetupData) (room : ℕ) (past : List Placed) → AreNotes (closing_lines setup room past)
closing_notes setup room past =
    let told : List Received = received_in_packets room past in
    let blocks : List Put = for_each (block_line_of (muid_at setup told)) 0 setup.blocks in
    let profiles : List Put = profile_lines Notes (on_at setup told) setup.profiles in
    named-then notes_alone _ _ (lines_named notes_alone refl (end_lines (Some room) (parts_of past))) (
      refl,
      named-then notes_alone blocks profiles
          (each_notes (block_line_of (muid_at setup told)) (block_notes (muid_at setup told)) 0 setup.blocks)
          (profiles_named notes_alone Notes (λ text. refl) (on_at setup told) setup.profiles),
    )

pub closing_output : (setup : SetupData) (room : ℕ) (past : List Placed) → output_in (closing_lines setup room past) ≡ []
closing_output setup room past = no_output (closing_lines setup room past) (closing_notes setup room past)

-- ---- the places

pub answers_named : (options : EndpointOptions) (past : List (Framed × Packet)) (item : Framed × Packet) (puts : List Put)
    → (answering options).IsPut past item puts → AreNamed output_and_notes puts
answers_named options past item puts put =
    let N : List Put → Type 0 = λ ps. AreNamed output_and_notes ps in
    let lines : List Put = packet_lines options.setup options.room (all_placed past) (placed_of item) in
    subst N (sym put.2)
    (named-then output_and_notes put.0 lines (written_named options.order _ put.0 put.1)
    (are_named lines (packet_notes options.setup options.room (all_placed past) (placed_of item))))

pub answers_last_named : (options : EndpointOptions) (past : List (Framed × Packet)) (puts : List Put) →
    (answering options).IsPutAtEnd past puts → AreNamed output_and_notes puts
answers_last_named options past puts put =
    let N : List Put → Type 0 = λ ps. AreNamed output_and_notes ps in
    let lines : List Put = closing_lines options.setup options.room (all_placed past) in
    subst N (sym put) (are_named lines (closing_notes options.setup options.room (all_placed past)))

-- ---- what is put for all packets

notes-written : (order : Order) (packets : List Packet) (puts : List Put) → AreWritten order packets puts → notes_in puts ≡ []
notes-written order [] puts written = ap notes_in written
notes-written order (packet ∷ packets) puts written =
    ap notes_in written.4
    ∙ flat_map-append notes_of written.0 written.1
    ∙ ap (λ ps. notes_in ps ++ notes_in written.1) written.2.2
    ∙ notes-written order packets written.1 written.3

module _ (options : EndpointOptions) where
  output-all : (past : List (Framed × Packet)) (puts : List Put) → ArePut (answering options) past puts
      → AreBytesOf options (replies_over options.setup options.room (all_placed past)) (output_in puts)
  output-all [] puts put = ([], refl, ap output_in put)
  output-all (item ∷ past) puts put =
      let before : List Placed = all_placed past in
      let lines : List Put = packet_lines options.setup options.room before (placed_of item) in
      let earlier = output-all past put.0 put.2 in (
        earlier.0 ++ put.3.0,
        written-then options.order (replies_over options.setup options.room before)
            (packet_replies options.setup options.room before (placed_of item)) earlier.0 put.3.0 earlier.1 put.3.1,
        ap output_in put.4
            ∙ flat_map-append output_of put.0 put.1
            ∙ ap (λ xs. xs ++ output_in put.1) earlier.2
            ∙ ap (λ xs. output_in earlier.0 ++ xs)
            (ap output_in put.3.2
            ∙ flat_map-append output_of put.3.0 lines
            ∙ ap (λ xs. output_in put.3.0 ++ xs) (no_output lines (packet_notes options.setup options.room before (placed_of item)))
            ∙ append-nil (output_in put.3.0))
            ∙ sym (flat_map-append output_of earlier.0 put.3.0),
      )

  notes-all : (past : List (Framed × Packet)) (puts : List Put) → ArePut (answering options) past puts
      → notes_in puts ≡ packet_lines_over options.setup options.room (all_placed past)
  notes-all [] puts put = ap notes_in put
  notes-all (item ∷ past) puts put =
      let before : List Placed = all_placed past in
      let lines : List Put = packet_lines options.setup options.room before (placed_of item) in
      let replies : List Packet = packet_replies options.setup options.room before (placed_of item) in
      ap notes_in put.4
      ∙ flat_map-append notes_of put.0 put.1
      ∙ ap (λ xs. xs ++ notes_in put.1) (notes-all past put.0 put.2)
      ∙ ap (λ xs. packet_lines_over options.setup options.room before ++ xs)
      (ap notes_in put.3.2
      ∙ flat_map-append notes_of put.3.0 lines
      ∙ ap (λ xs. xs ++ notes_in lines) (notes-written options.order replies put.3.0 put.3.1))

  pub answers_mean : (past : List (Framed × Packet)) (puts : List Put) → ArePut (answering options) past puts
      → (answering options).Means past puts
  answers_mean past puts put = (output-all past puts put, notes-all past puts put)
