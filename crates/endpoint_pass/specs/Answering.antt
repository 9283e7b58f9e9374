-- A recording of a peer that is answered: the words of the replies to each packet and then its lines; at the end the lines of the
-- exclusives that are open, of the protocol in force, and of the blocks and profiles.
use Rattle.std.specs.Prelude.{◌≡◌, ℕ, false, List, [], ◌∷◌, ◌++◌, Option, None, Some, if◌then◌else◌}
use Rattle.std.specs.Option.{option_to_list}
use Rattle.packet_words.specs.declared.words.Framed.{Framed}
use Rattle.ump_grammar.specs.declared.packet.Packet.{Packet}
use Rattle.function_blocks.specs.Blocks.{has_ci}
use Rattle.function_blocks.specs.Setups.{SetupData}
use Rattle.function_blocks.specs.declared.setup.Block.{Block}
use Rattle.ci_messages.specs.declared.view.CiFault.{CiFault}
use Rattle.ci_messages.specs.declared.view.CiFault.TheVariants as faults
use Rattle.ci_responder.specs.History.{muid_at, on_at}
use Rattle.ci_text.specs.Names.{name_of_heard}
use Rattle.ci_text.specs.Profiles.{profile_lines}
use Rattle.ci_text.specs.declared.profiles.LinePlace.TheVariants.{Notes}
use Rattle.listing_terms.specs.ExclusiveLines.{end_lines}
use Rattle.listing_terms.specs.Parts.{Placed, group_of, part_of, parts_of}
use Rattle.listing_terms.specs.ExclusiveLines.{bad_part}
use Rattle.endpoint_lines.specs.EndpointLines.{block_text, endpoint_text, protocol_text}
use Rattle.endpoint_lines.specs.declared.endpoint.OutcomeName.{OutcomeName}
use Rattle.endpoint_lines.specs.declared.endpoint.OutcomeName.TheVariants as names
use Rattle.pass_loop.specs.Each.{for_each}
use Rattle.pass_loop.specs.Pass.{Work}
use Rattle.pass_loop.specs.Put.{Put, in_notes, notes_in, output_in}
use Rattle.listing_lines.specs.Lines.{line_puts}
use Rattle.listing_lines.specs.Refusal.{refusal_by}
use Rattle.packet_input.specs.Placed.{all_placed, placed_of}
use Rattle.packet_input.specs.Written.{AreWritten, AreWrittenAndListed, output_and_notes}
use Rattle.ump_endpoint.specs.Answers.{in_force, packet_listed, packet_outcome, packet_replies, received_in_packets}
use Rattle.ump_endpoint.specs.declared.taken.Outcome.{Outcome}
use Rattle.ump_endpoint.specs.declared.taken.Outcome.TheVariants as outcomes
use Rattle.endpoint_pass.specs.Options.{EndpointOptions}

-- ---- the lines of a packet

-- what the line of a message says
abbrev pub name_of_fault : CiFault → OutcomeName
name_of_fault faults.NotCi = names.NotCi
name_of_fault faults.Short = names.Short
name_of_fault faults.BadAddress = names.BadAddress
name_of_fault faults.ReservedMuid = names.ReservedMuid

abbrev pub name_of : Outcome → OutcomeName
name_of outcomes.Answered = names.Answered
name_of outcomes.NoAnswer = names.NoAnswer
name_of outcomes.BadFormat = names.BadFormat
name_of (outcomes.Unread fault) = name_of_fault fault
name_of (outcomes.Heard heard) = name_of_heard heard

-- the line of the message that a packet ends, if it ends one
abbrev pub outcome_lines : ℕ → Packet → Option Outcome → List Put
outcome_lines offset packet None = []
outcome_lines offset packet (Some outcome) =
    in_notes (endpoint_text offset (group_of packet) (name_of outcome)) ∷ []

-- the line of the message that a packet ends after these, the newest first, and then that of what is lost by it
abbrev pub packet_lines : SetupData → ℕ → List Placed → Placed → List Put
packet_lines setup room past placed =
    outcome_lines placed.offset placed.packet (packet_outcome setup room past placed)
    ++ line_puts (option_to_list (packet_listed room past placed))

-- ---- all packets

-- the replies to all packets, in the order in which they came
abbrev pub replies_over : SetupData → ℕ → List Placed → List Packet
replies_over setup room [] = []
replies_over setup room (placed ∷ past) = replies_over setup room past ++ packet_replies setup room past placed

-- the bytes of their lines
abbrev pub packet_lines_over : SetupData → ℕ → List Placed → List ℕ
packet_lines_over setup room [] = []
packet_lines_over setup room (placed ∷ past) = packet_lines_over setup room past ++ notes_in (packet_lines setup room past placed)

-- ---- the end

-- the line of a block that has MIDI-CI, with the MUID in force
abbrev pub block_line_of : (ℕ → Option ℕ) → ℕ → Block → List Put
block_line_of muid number block = if has_ci block then in_notes (block_text number (muid number)) ∷ [] else []

-- the lines at the end: of the exclusives that are open, of the protocol, of the blocks and of the profiles. A profile is on or off by
-- the last switch of it that was accepted, else as the setup says.
abbrev pub closing_lines : SetupData → ℕ → List Placed → List Put
closing_lines setup room past =
    line_puts (end_lines (Some room) (parts_of past))
    ++ (in_notes (protocol_text (in_force setup past)) ∷ []
    ++ (for_each (block_line_of (muid_at setup (received_in_packets room past))) 0 setup.blocks
    ++ profile_lines Notes (on_at setup (received_in_packets room past)) setup.profiles))

-- ---- a recording

-- these bytes are the words of the packets, one packet after the other
abbrev pub AreBytesOf : EndpointOptions → List Packet → List ℕ → Type 0
AreBytesOf options packets bytes = (written : List Put) × AreWritten options.order packets written × (bytes ≡ output_in written)

-- What is done with the packets of a peer: the words of the replies to each are put in the output, each packet by one put, and
-- then its lines in the notes. A packet is refused if it makes its exclusive too long. What is put in the output is the words of
-- the replies to all packets, and what is put in the notes all their lines.
abbrev pub answering : EndpointOptions → Work (Framed × Packet)
answering options =
    record {
      names = output_and_notes;
      grows = false;
      refusal = λ past item. refusal_by (bad_part (Some options.room) (parts_of (all_placed past)) (part_of 0 item.1)) item.0.offset;
      IsPut = λ past item puts. AreWrittenAndListed options.order
          (packet_replies options.setup options.room (all_placed past) (placed_of item))
          (packet_lines options.setup options.room (all_placed past) (placed_of item)) puts;
      refusal_at_end = λ past. None;
      IsPutAtEnd = λ past puts. puts ≡ closing_lines options.setup options.room (all_placed past);
      Means =
          λ past puts. AreBytesOf options (replies_over options.setup options.room (all_placed past)) (output_in puts)
          × (notes_in puts ≡ packet_lines_over options.setup options.room (all_placed past));
    }
