-- The state of an endpoint, and its answer to one more packet.
use Rattle.std.specs.Prelude.{ℕ, List, [], ◌++◌, Option, None, Some, Result, Ok, Err}
use Rattle.std.specs.Option.{option_map, option_and_then}
use Rattle.voice_messages.specs.declared.voice2.Form.{Form}
use Rattle.ump_grammar.specs.declared.packet.Packet.{Packet}
use Rattle.ump_grammar.specs.declared.packet.Packet.TheVariants as packets
use Rattle.sysex_groups.specs.Exclusives.{Answer, Part, restarted, restarted_whole, stray, too_long, whole}
use Rattle.sysex_groups.specs.Table.{Table, answer_to, empty_table, table_over, with_part}
use Rattle.function_blocks.specs.Setups.{SetupData}
use Rattle.ci_responder.specs.Held.{Held, after, heard_in, replies_in as message_replies_in}
use Rattle.ci_responder.specs.History.{responder_at}
use Rattle.listing_terms.specs.declared.listed.BadStep.{BadStep}
use Rattle.listing_terms.specs.declared.listed.BadStep.TheVariants as bad
use Rattle.listing_terms.specs.declared.listed.Kind.TheVariants as kinds
use Rattle.listing_terms.specs.declared.listed.Listed.{Listed}
use Rattle.listing_terms.specs.Parts.{Placed, part_of, parts_of}
use Rattle.ump_endpoint.specs.declared.taken.Outcome.{Outcome}
use Rattle.ump_endpoint.specs.declared.taken.Outcome.TheVariants as outcomes
use Rattle.ump_endpoint.specs.declared.taken.Taken.{Taken}
use Rattle.ump_endpoint.specs.Answers.{SaidOrFault, in_force, protocol_after_packet, said_in}
use Rattle.ump_endpoint.specs.Answers.{stream_outcome, stream_packet_replies, received_in_packets}

-- its setup, the protocol in force, the exclusives that the groups have open, and its responder
pub record EndpointState : Type 0 where
  pub setup : SetupData
  pub protocol : ℕ
  pub exclusives : Table
  pub responder : Held

-- an endpoint: what it holds, and the words of the replies to the last packet
pub record EndpointValue : Type 0 where
  pub held : EndpointState
  pub replies : List ℕ

-- an endpoint to which nothing has come, with this limit for the bytes of an exclusive
abbrev pub new_endpoint : SetupData → ℕ → EndpointState
new_endpoint setup room =
    record {
      setup = setup;
      protocol = setup.endpoint.protocol;
      exclusives = empty_table room;
      responder = responder_at setup room [];
    }

-- an endpoint that begins again: of the same setup, with the same limit
abbrev pub reset_endpoint : EndpointState → EndpointState
reset_endpoint held = new_endpoint held.setup held.exclusives.room

-- ---- one message

-- what a responder holds after a message, the replies to it, and what becomes of it
abbrev pub after_said : Held → SaidOrFault → Held
after_said held (Ok received) = after held received
after_said held (Err fault) = held

abbrev pub said_replies : Held → SaidOrFault → List Packet
said_replies held (Ok received) = message_replies_in held received
said_replies held (Err fault) = []

abbrev pub said_outcome_in : Held → SaidOrFault → Outcome
said_outcome_in held (Ok received) = outcomes.Heard (heard_in held received)
said_outcome_in held (Err fault) = outcomes.Unread fault

-- ---- one part of an exclusive, by the answer to it

-- what the exclusive says that an answer lends, if it lends one
abbrev pub said_of : ℕ → Answer → Option SaidOrFault
said_of group (whole message) = Some (said_in group message)
said_of group (restarted_whole at message) = Some (said_in group message)
said_of group _ = None

abbrev pub after_part : Held → Option SaidOrFault → Held
after_part held None = held
after_part held (Some said) = after_said held said

abbrev pub part_replies : Held → Option SaidOrFault → List Packet
part_replies held None = []
part_replies held (Some said) = said_replies held said

-- the line of a part that is stray or cuts another exclusive
abbrev pub stray_listed : ℕ → ℕ → Listed
stray_listed group offset = record { offset = offset; group = Some group; kind = kinds.StrayExclusive }

abbrev pub cut_listed : ℕ → ℕ → Listed
cut_listed group at = record { offset = at; group = Some group; kind = kinds.CutExclusive }

abbrev pub listed_of : ℕ → ℕ → Answer → Option Listed
listed_of group offset stray = Some (stray_listed group offset)
listed_of group offset (restarted at) = Some (cut_listed group at)
listed_of group offset (restarted_whole at message) = Some (cut_listed group at)
listed_of group offset _ = None

-- why a part is refused, if it is refused
abbrev pub refusal_of : Answer → Option BadStep
refusal_of too_long = Some bad.ExclusiveTooLong
refusal_of _ = None

-- a packet is refused, or this is done with it
abbrev pub taken_by : Option BadStep → Taken → Result Taken BadStep
taken_by None taken = Ok taken
taken_by (Some refusal) taken = Err refusal

abbrev pub part_taken : Held → ℕ → ℕ → Answer → Result Taken BadStep
part_taken held group offset answer =
    taken_by (refusal_of answer)
    (record { outcome = option_map (said_outcome_in held) (said_of group answer); listed = listed_of group offset answer })

-- ---- one packet

abbrev pub placed_part : ℕ → ℕ → Form → List ℕ → Part
placed_part group offset form bytes = record { group = group; form = form; bytes = bytes; offset = offset }

-- what the exclusive says that a packet ends
abbrev pub said_of_packet : Table → Packet → Option SaidOrFault
said_of_packet table (packets.Exclusive group form bytes) =
    said_of group (answer_to table (placed_part group 0 form bytes))
said_of_packet table _ = None

-- why a packet is refused, if it is refused
abbrev pub refusal_in : EndpointState → Packet → Option BadStep
refusal_in held packet = option_and_then (λ part. refusal_of (answer_to held.exclusives part)) (part_of 0 packet)

abbrev pub replies_in : EndpointState → Packet → List Packet
replies_in held packet =
    stream_packet_replies held.setup held.protocol packet
    ++ part_replies held.responder (said_of_packet held.exclusives packet)

-- what becomes of the message that a packet ends, if it ends one
abbrev pub outcome_in : EndpointState → Packet → Option Outcome
outcome_in held (packets.Stream format status low second third fourth) =
    Some (stream_outcome held.setup held.protocol (packets.Stream format status low second third fourth))
outcome_in held packet = option_map (said_outcome_in held.responder) (said_of_packet held.exclusives packet)

-- the line of a packet at this offset that is stray or cuts an exclusive
abbrev pub listed_in : EndpointState → ℕ → Packet → Option Listed
listed_in held offset (packets.Exclusive group form bytes) =
    listed_of group offset (answer_to held.exclusives (placed_part group offset form bytes))
listed_in held offset _ = None

-- a packet at this offset is refused, or this is done with it
abbrev pub taken_in : EndpointState → ℕ → Packet → Result Taken BadStep
taken_in held offset packet =
    taken_by (refusal_in held packet)
    (record { outcome = outcome_in held packet; listed = listed_in held offset packet })

-- the exclusives after a part, if there is one
abbrev pub with_part_of : Option Part → Table → Table
with_part_of None table = table
with_part_of (Some part) table = with_part part table

-- the state after a packet at this offset, whether it is refused or not
abbrev pub after_packet : ℕ → Packet → EndpointState → EndpointState
after_packet offset packet held =
    record {
      setup = held.setup;
      protocol = protocol_after_packet held.setup held.protocol packet;
      exclusives = with_part_of (part_of offset packet) held.exclusives;
      responder = after_part held.responder (said_of_packet held.exclusives packet);
    }

-- ---- packets, the newest first

-- the state after them
abbrev pub held_over : SetupData → ℕ → List Placed → EndpointState
held_over setup room past =
    record {
      setup = setup;
      protocol = in_force setup past;
      exclusives = table_over room (parts_of past);
      responder = responder_at setup room (received_in_packets room past);
    }
