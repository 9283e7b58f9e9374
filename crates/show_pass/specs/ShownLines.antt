-- The lines of all packets, or of all bytes, of an input that is shown, and those of what it leaves in a
-- receiver.
use Rattle.std.specs.Prelude.{ℕ, Bool, true, false, List, [], ◌∷◌, ◌++◌, length, Option, Some}
use Rattle.std.specs.List.{concat, flat_map}
use Rattle.std.specs.Option.{option_map, option_to_list}
use Rattle.packet_words.specs.declared.words.Framed.{Framed}
use Rattle.ump_grammar.specs.declared.packet.Packet.{Packet}
use Rattle.midi1_bytes.specs.Steps.{Step, step_of}
use Rattle.midi1_bytes.specs.Stream.{Open, open_at_end}
use Rattle.midi_meaning.specs.declared.listed.Kind.{Kind}
use Rattle.midi_meaning.specs.Messages.{as_they_come, meaning1, raised}
use Rattle.midi_meaning.specs.Packets.{meaning2}
use Rattle.midi_meaning.specs.StepListing.{kinds_at_end, kinds_of_step}
use Rattle.voice_state.specs.declared.fact.Fact.{Fact}
use Rattle.voice_state.specs.Facts.{facts_of}
use Rattle.voice_state.specs.States.{states_of_stream}
use Rattle.midi_lines.specs.FactLines.{fact_text}
use Rattle.midi_lines.specs.PacketLines.{packet_text}
use Rattle.midi_lines.specs.StepLines.{byte_listing_text, step_text}
use Rattle.down_translator.specs.Recording.{packets_of}
use Rattle.pass_loop.specs.Bytes.{bytes_read}
use Rattle.packet_input.specs.Placed.{all_placed}
use Rattle.show_pass.specs.Texts.{text_line}

-- a line, if there is one
abbrev pub if_any : Option (List ℕ) → List ℕ
if_any line = concat (option_to_list line)

-- ---- of a state, if it is asked for

abbrev pub shown_state : Bool → List Fact → List ℕ
shown_state false facts = []
shown_state true facts = flat_map fact_text facts

-- ---- of packets, which are listed newest first

-- the line of a packet, and then that of the text that it ends, if it ends one
abbrev pub shown_packet : List (Framed × Packet) → Framed × Packet → List ℕ
shown_packet past item =
    packet_text item.1 item.0.words item.0.offset ++ if_any (text_line (packets_of (all_placed past)) item.1)

-- the lines of all packets, in the order in which they came
abbrev pub shown_packets : List (Framed × Packet) → List ℕ
shown_packets [] = []
shown_packets (item ∷ past) = shown_packets past ++ shown_packet past item

-- the lines of a whole recording: those of its packets, and those of what they mean, if they are asked for
abbrev pub shown_recording : Bool → List (Framed × Packet) → List ℕ
shown_recording state past =
    shown_packets past ++ shown_state state (facts_of raised (meaning2 false (packets_of (all_placed past))))

-- ---- of bytes, which are listed newest first

abbrev pub shown_listing : List (Kind × ℕ) → List ℕ
shown_listing kinds = flat_map (λ line. byte_listing_text line.0 line.1) kinds

-- the lines of a byte at this offset: what it cuts off or fails to belong to, and then the message that it
-- completes
abbrev pub shown_step : Step → ℕ → List ℕ
shown_step step offset = shown_listing (kinds_of_step step offset) ++ if_any (step_text step offset)

-- the lines of all bytes, in the order in which they came
abbrev pub shown_bytes : ℕ → List ℕ → List ℕ
shown_bytes room [] = []
shown_bytes room (byte ∷ past) = shown_bytes room past ++ shown_step (step_of (Some room) past byte) (length past)

-- the same of bytes with their offsets
abbrev pub shown_items : ℕ → List (ℕ × ℕ) → List ℕ
shown_items room [] = []
shown_items room (item ∷ past) =
    shown_items room past ++ shown_step (step_of (Some room) (bytes_read past) item.1) item.0

-- the line of what is open at the end
abbrev pub shown_open : Option Open → List ℕ
shown_open begun = shown_listing (kinds_at_end (option_map (λ b. (b.start, b.kind)) begun))

-- the lines of a whole stream: those of its bytes, that of what is open, and those of what the bytes mean, if
-- they are asked for
abbrev pub shown_stream : ℕ → Bool → List ℕ → List ℕ
shown_stream room state past =
    shown_bytes room past
    ++ (shown_open (open_at_end (Some room) past)
    ++ shown_state state (facts_of as_they_come (states_of_stream (meaning1 false past))))
