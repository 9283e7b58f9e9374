-- What is put for an input that is shown is its lines.
use Rattle.std.proofs.Common.{◌≡◌, ℕ, Bool, true, false, List, [], ◌∷◌, ◌++◌, Option, None, Some, refl, ap, ◌∙◌}
use Rattle.std.specs.Option.{option_map, option_to_list}
use Rattle.std.proofs.lemmas.List.Concat.{flat_map-append}
use Rattle.packet_words.specs.declared.words.Framed.{Framed}
use Rattle.ump_grammar.specs.declared.packet.Packet.{Packet}
use Rattle.midi1_bytes.specs.Steps.{Step, step_of}
use Rattle.midi_meaning.specs.declared.listed.Kind.{Kind}
use Rattle.midi_meaning.specs.StepListing.{kinds_of_step}
use Rattle.voice_state.specs.declared.fact.Fact.{Fact}
use Rattle.midi_lines.specs.FactLines.{fact_text}
use Rattle.midi_lines.specs.PacketLines.{packet_text}
use Rattle.midi_lines.specs.StepLines.{byte_listing_text, step_text}
use Rattle.down_translator.specs.Recording.{packets_of}
use Rattle.pass_loop.specs.Bytes.{bytes_read}
use Rattle.pass_loop.specs.Pass.{ArePut}
use Rattle.pass_loop.specs.Put.{Put, in_output, output_in, output_of}
use Rattle.packet_input.specs.Placed.{all_placed}
use Rattle.show_pass.specs.KeptState.{fact_puts, state_puts}
use Rattle.show_pass.specs.Options.{ByteLineOptions, PacketLineOptions}
use Rattle.show_pass.specs.ShowBytes.{listing_puts, shown_puts, showing_bytes}
use Rattle.show_pass.specs.ShowPackets.{packet_puts, showing}
use Rattle.show_pass.specs.ShownLines.{if_any, shown_items, shown_packets, shown_listing, shown_packet}
use Rattle.show_pass.specs.ShownLines.{shown_state, shown_step}
use Rattle.show_pass.specs.Texts.{text_line}

output-any : (line : Option (List ℕ)) → output_in (option_to_list (option_map in_output line)) ≡ if_any line
output-any None = refl
output-any (Some text) = refl

output-facts : (facts : List Fact) → output_in (fact_puts facts) ≡ shown_state true facts
output-facts [] = refl
output-facts (fact ∷ facts) = ap (λ xs. fact_text fact ++ xs) (output-facts facts)

pub output-state : (asked : Bool) (facts : List Fact) → output_in (state_puts asked facts) ≡ shown_state asked facts
output-state false facts = refl
output-state true facts = output-facts facts

-- ---- packets

output-packet : (past : List (Framed × Packet)) (item : Framed × Packet)
    → output_in (packet_puts (packets_of (all_placed past)) item) ≡ shown_packet past item
output-packet past item =
    ap (λ xs. packet_text item.1 item.0.words item.0.offset ++ xs) (output-any (text_line (packets_of (all_placed past)) item.1))

pub shown_packets_mean : (options : PacketLineOptions) (past : List (Framed × Packet)) (puts : List Put)
    → ArePut (showing options) past puts → (showing options).Means past puts
shown_packets_mean options [] puts put = ap output_in put
shown_packets_mean options (item ∷ past) puts put =
    ap output_in put.4
    ∙ flat_map-append output_of put.0 put.1
    ∙ ap (λ xs. xs ++ output_in put.1) (shown_packets_mean options past put.0 put.2)
    ∙ ap (λ xs. shown_packets past ++ xs) (ap output_in put.3 ∙ output-packet past item)

-- ---- bytes

pub output-listing : (kinds : List (Kind × ℕ)) → output_in (listing_puts kinds) ≡ shown_listing kinds
output-listing [] = refl
output-listing (line ∷ kinds) = ap (λ xs. byte_listing_text line.0 line.1 ++ xs) (output-listing kinds)

output-step : (step : Step) (offset : ℕ) → output_in (shown_puts step offset) ≡ shown_step step offset
output-step step offset =
    let text : List Put = option_to_list (option_map in_output (step_text step offset)) in
    flat_map-append output_of (listing_puts (kinds_of_step step offset)) text
    ∙ ap (λ xs. xs ++ output_in text) (output-listing (kinds_of_step step offset))
    ∙ ap (λ xs. shown_listing (kinds_of_step step offset) ++ xs) (output-any (step_text step offset))

pub shown_bytes_mean : (options : ByteLineOptions) (past : List (ℕ × ℕ)) (puts : List Put)
    → ArePut (showing_bytes options) past puts → (showing_bytes options).Means past puts
shown_bytes_mean options [] puts put = ap output_in put
shown_bytes_mean options (item ∷ past) puts put =
    ap output_in put.4
    ∙ flat_map-append output_of put.0 put.1
    ∙ ap (λ xs. xs ++ output_in put.1) (shown_bytes_mean options past put.0 put.2)
    ∙ ap (λ xs. shown_items options.room past ++ xs)
    (ap output_in put.3 ∙ output-step (step_of (Some options.room) (bytes_read past) item.1) item.0)
