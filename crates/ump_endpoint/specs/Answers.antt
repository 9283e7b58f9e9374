-- The answer of an endpoint to a packet, by the packets before it, which are listed the newest first.
use Rattle.std.specs.Prelude.{ℕ, List, [], ◌∷◌, ◌++◌, Option, None, Some, Result, Ok, Err, map, option_and_then}
use Rattle.std.specs.Option.{option_map, option_map_or}
use Rattle.ump_grammar.specs.declared.packet.Packet.{Packet}
use Rattle.ump_grammar.specs.declared.packet.Packet.TheVariants as packets
use Rattle.sysex_groups.specs.Exclusives.{Part, framed}
use Rattle.function_blocks.specs.InForce.{message_read, protocol_at}
use Rattle.function_blocks.specs.Replies.{protocol_after, stream_replies}
use Rattle.function_blocks.specs.Setups.{SetupData}
use Rattle.ci_messages.specs.Reading.{ci_fault}
use Rattle.ci_messages.specs.declared.view.CiFault.{CiFault}
use Rattle.ci_responder.specs.History.{heard_at, replies_at}
use Rattle.ci_responder.specs.Messages.{Received}
use Rattle.ci_responder.specs.Read.{received_in}
use Rattle.listing_terms.specs.declared.listed.Listed.{Listed}
use Rattle.listing_terms.specs.ExclusiveLines.{exclusive_line}
use Rattle.listing_terms.specs.Parts.{Placed, part_of, parts_of, whole_by}
use Rattle.ump_endpoint.specs.declared.taken.Outcome.{Outcome}
use Rattle.ump_endpoint.specs.declared.taken.Outcome.TheVariants as outcomes

-- ---- a stream packet, with the protocol that is in force before it

-- the replies to the message of a stream packet, if its format is one that its status has
abbrev pub stream_packet_replies : SetupData → ℕ → Packet → List Packet
stream_packet_replies setup protocol packet =
    option_map_or (stream_replies setup protocol) (message_read packet) []

abbrev pub protocol_after_packet : SetupData → ℕ → Packet → ℕ
protocol_after_packet setup protocol packet =
    option_map_or (protocol_after setup protocol) (message_read packet) protocol

-- what becomes of a message that has these replies
abbrev pub outcome_of_replies : List Packet → Outcome
outcome_of_replies [] = outcomes.NoAnswer
outcome_of_replies (first ∷ more) = outcomes.Answered

-- what becomes of a stream packet
abbrev pub stream_outcome : SetupData → ℕ → Packet → Outcome
stream_outcome setup protocol packet =
    option_map_or (λ message. outcome_of_replies (stream_replies setup protocol message))
    (message_read packet) outcomes.BadFormat

-- ---- an exclusive that a packet ends

-- what a message of a group says, or its first fault
abbrev pub SaidOrFault : Type 0
SaidOrFault = Result Received CiFault

abbrev pub said_with : Option CiFault → Received → SaidOrFault
said_with None received = Ok received
said_with (Some fault) received = Err fault

abbrev pub said_in : ℕ → List ℕ → SaidOrFault
said_in group message = said_with (ci_fault message) (received_in group message)

-- what the exclusive says that a packet ends after these parts, if it ends one
abbrev pub said_by : ℕ → List Part → Packet → Option SaidOrFault
said_by room parts (packets.Exclusive group form bytes) =
    option_map (λ payload. said_in group (framed payload))
    (whole_by (Some room) parts (packets.Exclusive group form bytes))
said_by room parts _ = None

-- a message without a fault is heard
abbrev pub received_by : Option SaidOrFault → List Received
received_by (Some (Ok received)) = received ∷ []
received_by _ = []

-- the messages that are heard in these packets; both newest first
abbrev pub received_in_packets : ℕ → List Placed → List Received
received_in_packets room [] = []
received_in_packets room (placed ∷ past) =
    received_by (said_by room (parts_of past) placed.packet) ++ received_in_packets room past

-- the replies to a message after those that were heard, and what becomes of it
abbrev pub message_replies : SetupData → ℕ → List Received → Option SaidOrFault → List Packet
message_replies setup room past (Some (Ok received)) = replies_at setup room past received
message_replies setup room past _ = []

abbrev pub said_outcome : SetupData → List Received → SaidOrFault → Outcome
said_outcome setup past (Ok received) = outcomes.Heard (heard_at setup past received)
said_outcome setup past (Err fault) = outcomes.Unread fault

-- what becomes of the message that a packet ends: a stream packet ends its own, and of the others only one of
-- an exclusive ends one
abbrev pub outcome_by : SetupData → ℕ → List Received → Option SaidOrFault → Packet → Option Outcome
outcome_by setup protocol past said (packets.Stream format status low second third fourth) =
    Some (stream_outcome setup protocol (packets.Stream format status low second third fourth))
outcome_by setup protocol past said _ = option_map (said_outcome setup past) said

-- ---- a packet after others

-- the protocol in force after these packets
abbrev pub in_force : SetupData → List Placed → ℕ
in_force setup past = protocol_at setup (map (λ placed. placed.packet) past)

module _ (setup : SetupData) (room : ℕ) (past : List Placed) (placed : Placed) where
  abbrev pub packet_replies : List Packet
  packet_replies =
      stream_packet_replies setup (in_force setup past) placed.packet
      ++ message_replies setup room (received_in_packets room past) (said_by room (parts_of past) placed.packet)

  -- what becomes of the message that the packet ends, if it ends one
  abbrev pub packet_outcome : Option Outcome
  packet_outcome =
      outcome_by setup (in_force setup past) (received_in_packets room past) (said_by room (parts_of past) placed.packet)
      placed.packet

-- the line of an exclusive packet that is stray or cuts another exclusive
abbrev pub packet_listed : ℕ → List Placed → Placed → Option Listed
packet_listed room past placed =
    option_and_then (exclusive_line (Some room) (parts_of past)) (part_of placed.offset placed.packet)
