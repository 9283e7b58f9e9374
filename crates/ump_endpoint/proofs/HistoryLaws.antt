-- What an endpoint answers by what it holds is what it answers by all packets before.
use Rattle.std.proofs.Common.{◌≡◌, ◌≤◌, ℕ, Bool, true, false, List, [], ◌∷◌, ◌++◌, length, Option, None, Some, refl, ap, sym, ◌∙◌}
use Rattle.std.specs.Prelude.{Ok, Err, if◌then◌else◌}
use Rattle.std.specs.Option.{option_map, option_map_or}
use Rattle.voice_messages.specs.declared.voice2.Form.{Form}
use Rattle.voice_messages.specs.declared.voice2.Form.TheVariants as form
use Rattle.ump_grammar.specs.Ranges.{IsPacket}
use Rattle.ump_grammar.specs.declared.packet.Packet.{Packet}
use Rattle.ump_grammar.specs.declared.packet.Packet.TheVariants as packets
use Rattle.system_stream.specs.declared.message.StreamMessage.{StreamMessage}
use Rattle.function_blocks.specs.InForce.{message_read, protocol_at}
use Rattle.function_blocks.specs.Profiles.{profiles_are_distinct}
use Rattle.function_blocks.specs.Replies.{protocol_after}
use Rattle.function_blocks.specs.Setups.{SetupData}
use Rattle.ci_responder.specs.Held.{Held}
use Rattle.ci_responder.specs.History.{responder_at}
use Rattle.ci_responder.specs.Laws.{HeldIsTheHistory}
use Rattle.ci_responder.specs.Messages.{Received}
use Rattle.sysex_groups.specs.Exclusives.{Part, Room, bytes_of, ended_by, fits, framed, goes_on, held}
use Rattle.sysex_groups.specs.Exclusives.{opened, passes_by, start_of, started, too_long, whole}
use Rattle.sysex_groups.specs.Laws.{FedPartsAreTheDefinition}
use Rattle.sysex_groups.specs.Table.{AreParts, Begun, Table, answer_of, answer_to, begun_over, begun_in, begun_of, table_over}
use Rattle.listing_terms.specs.ExclusiveLines.{bad_part, exclusive_listed}
use Rattle.listing_terms.specs.Parts.{Placed, part_of, parts_of}
use Rattle.listing_terms.specs.declared.listed.BadStep.TheVariants as bad
use Rattle.ump_endpoint.specs.Answers.{SaidOrFault, in_force, message_replies, outcome_by, packet_listed}
use Rattle.ump_endpoint.specs.Answers.{packet_outcome, packet_replies, protocol_after_packet, said_by, said_in}
use Rattle.ump_endpoint.specs.Answers.{said_outcome, stream_packet_replies, received_by, received_in_packets}
use Rattle.ump_endpoint.specs.Held.{EndpointState, after_packet, after_part, held_over, listed_in, listed_of, new_endpoint, outcome_in}
use Rattle.ump_endpoint.specs.Held.{part_replies, placed_part, refusal_in, refusal_of, replies_in, reset_endpoint, said_of, said_of_packet}
use Rattle.ump_endpoint.specs.Held.{said_outcome_in, with_part_of}
use Rattle.ump_endpoint.specs.Laws.{ArePackets}
use Rattle.ump_endpoint.specs.declared.taken.Outcome.TheVariants as outcomes

-- ---- a part of an exclusive, by what its group has open

abbrev bytes_begun : Option Begun → Option (List ℕ)
bytes_begun begun = option_map (λ (b : Begun). b.bytes) begun

abbrev start_begun : Option Begun → Option ℕ
start_begun begun = option_map (λ (b : Begun). b.start) begun

said_is_ended : (room : Room) (begun : Option Begun) (group : ℕ) (f : Form) (bytes : List ℕ)
    → said_of group (answer_of room begun f bytes)
    ≡ option_map (λ payload. said_in group (framed payload)) (ended_by room f (bytes_begun begun) bytes)
said_is_ended room None group form.Complete bytes = refl
said_is_ended room None group form.Start bytes = refl
said_is_ended room None group form.Continue bytes = refl
said_is_ended room None group form.End bytes = refl
said_is_ended room (Some begun) group form.Complete bytes = refl
said_is_ended room (Some begun) group form.Start bytes = refl
said_is_ended room (Some begun) group form.Continue bytes = by_fit (fits room (length (begun.bytes ++ bytes)))
  where
    by_fit : (fit : Bool) → said_of group (if fit then held else too_long) ≡ None
    by_fit true = refl
    by_fit false = refl
said_is_ended room (Some begun) group form.End bytes = by_fit (fits room (length (begun.bytes ++ bytes)))
  where
    by_fit : (fit : Bool)
        → said_of group (if fit then whole (framed (begun.bytes ++ bytes)) else too_long)
        ≡ option_map (λ payload. said_in group (framed payload)) (if fit then Some (begun.bytes ++ bytes) else None)
    by_fit true = refl
    by_fit false = refl

lost_is_listed : (room : Room) (begun : Option Begun) (group offset : ℕ) (f : Form) (bytes : List ℕ)
    → listed_of group offset (answer_of room begun f bytes)
    ≡ exclusive_listed (start_begun begun) (record { group = group; form = f; bytes = bytes; offset = offset })
lost_is_listed room None group offset form.Complete bytes = refl
lost_is_listed room None group offset form.Start bytes = refl
lost_is_listed room None group offset form.Continue bytes = refl
lost_is_listed room None group offset form.End bytes = refl
lost_is_listed room (Some begun) group offset form.Complete bytes = refl
lost_is_listed room (Some begun) group offset form.Start bytes = refl
lost_is_listed room (Some begun) group offset form.Continue bytes = by_fit (fits room (length (begun.bytes ++ bytes)))
  where
    by_fit : (fit : Bool) → listed_of group offset (if fit then held else too_long) ≡ None
    by_fit true = refl
    by_fit false = refl
lost_is_listed room (Some begun) group offset form.End bytes = by_fit (fits room (length (begun.bytes ++ bytes)))
  where
    by_fit : (fit : Bool) → listed_of group offset (if fit then whole (framed (begun.bytes ++ bytes)) else too_long) ≡ None
    by_fit true = refl
    by_fit false = refl

too_long_is_refused : (room : Room) (begun : Option Begun) (f : Form) (bytes : List ℕ)
    → refusal_of (answer_of room begun f bytes)
    ≡ (if (if goes_on f then passes_by room (bytes_begun begun) bytes else false) then Some bad.ExclusiveTooLong else None)
too_long_is_refused room None form.Complete bytes = refl
too_long_is_refused room None form.Start bytes = refl
too_long_is_refused room None form.Continue bytes = refl
too_long_is_refused room None form.End bytes = refl
too_long_is_refused room (Some begun) form.Complete bytes = refl
too_long_is_refused room (Some begun) form.Start bytes = refl
too_long_is_refused room (Some begun) form.Continue bytes = by_fit (fits room (length (begun.bytes ++ bytes)))
  where
    by_fit : (fit : Bool)
        → refusal_of (if fit then held else too_long) ≡ (if (if fit then false else true) then Some bad.ExclusiveTooLong else None)
    by_fit true = refl
    by_fit false = refl
too_long_is_refused room (Some begun) form.End bytes = by_fit (fits room (length (begun.bytes ++ bytes)))
  where
    by_fit : (fit : Bool)
        → refusal_of (if fit then whole (framed (begun.bytes ++ bytes)) else too_long)
        ≡ (if (if fit then false else true) then Some bad.ExclusiveTooLong else None)
    by_fit true = refl
    by_fit false = refl

-- ---- what the groups have open after packets

more_parts : (offset : ℕ) (p : Packet) (past : List Placed) → IsPacket p → AreParts (parts_of past)
    → AreParts (parts_of (record { offset = offset; packet = p } ∷ past))
more_parts offset (packets.Exclusive g f bytes) past is are = ((is.0, is.1), are)
more_parts offset (packets.Utility s v) past is are = are
more_parts offset (packets.System g m) past is are = are
more_parts offset (packets.Voice1 g m) past is are = are
more_parts offset (packets.Voice2 g m) past is are = are
more_parts offset (packets.Data8 g w) past is are = are
more_parts offset (packets.Flex g w) past is are = are
more_parts offset (packets.Stream f s l w x y) past is are = are
more_parts offset (packets.Reserved w) past is are = are

parts_in_range : (past : List Placed) → ArePackets past → AreParts (parts_of past)
parts_in_range [] are = tt
parts_in_range (placed ∷ past) are = more_parts placed.offset placed.packet past are.0 (parts_in_range past are.1)

table_room : (room : ℕ) (parts : List Part) → (table_over room parts).room ≡ room
table_room room [] = refl
table_room room (part ∷ parts) = table_room room parts

pub begins_again : (setup : SetupData) (room : ℕ) (past : List Placed) → reset_endpoint (held_over setup room past) ≡ new_endpoint setup room
begins_again setup room past = ap (new_endpoint setup) (table_room room (parts_of past))

begun-bytes : (o : Option (List Part)) → bytes_begun (option_map begun_of o) ≡ option_map bytes_of o
begun-bytes None = refl
begun-bytes (Some parts) = refl

begun-start : (o : Option (List Part)) → start_begun (option_map begun_of o) ≡ option_map start_of o
begun-start None = refl
begun-start (Some parts) = refl

-- ---- the protocol in force after one more packet

pub protocol_next : (follows : (setup : SetupData) (past : List Packet) (packet : Packet) (message : StreamMessage)
    → message_read packet ≡ Some message → protocol_after setup (protocol_at setup past) message ≡ protocol_at setup (packet ∷ past))
    (unread : (setup : SetupData) (past : List Packet) (packet : Packet) → message_read packet ≡ None
    → protocol_at setup (packet ∷ past) ≡ protocol_at setup past)
    (setup : SetupData) (past : List Packet) (packet : Packet)
    → protocol_after_packet setup (protocol_at setup past) packet ≡ protocol_at setup (packet ∷ past)
protocol_next follows unread setup past packet = by_message (message_read packet) refl
  where
    by_message : (message : Option StreamMessage) → message_read packet ≡ message
        → option_map_or (protocol_after setup (protocol_at setup past)) message (protocol_at setup past) ≡ protocol_at setup (packet ∷ past)
    by_message None e = sym (unread setup past packet e)
    by_message (Some message) e = follows setup past packet message e

-- ---- by the messages that were heard

module _ (history : HeldIsTheHistory) (setup : SetupData) (room : ℕ) (received : List Received) where
  abbrev heard : Held
  heard = responder_at setup room received

  replies_are : (said : Option SaidOrFault) → part_replies heard said ≡ message_replies setup room received said
  replies_are None = refl
  replies_are (Some (Ok one)) = history.replies setup room received one
  replies_are (Some (Err fault)) = refl

  outcome_are : (said : Option SaidOrFault) → option_map (said_outcome_in heard) said ≡ option_map (said_outcome setup received) said
  outcome_are None = refl
  outcome_are (Some (Ok one)) = ap (λ h. Some (outcomes.Heard h)) (history.heard setup room received one)
  outcome_are (Some (Err fault)) = refl

  after_is : profiles_are_distinct setup.profiles ≡ true → (said : Option SaidOrFault)
      → after_part heard said ≡ responder_at setup room (received_by said ++ received)
  after_is distinct None = refl
  after_is distinct (Some (Ok one)) = history.after setup room received one distinct
  after_is distinct (Some (Err fault)) = refl

-- ---- one packet after others

module _ (fed : FedPartsAreTheDefinition) (room : ℕ) (past : List Placed) (least : 6 ≤ room) (are : ArePackets past) where
  abbrev parts : List Part
  parts = parts_of past

  abbrev table : Table
  table = table_over room parts

  pub begun_is : (group : ℕ) → start_begun (begun_in table group) ≡ started (Some room) group parts
  begun_is group =
      ap start_begun (fed.begun room parts least (parts_in_range past are) group) ∙ begun-start (opened (Some room) group parts)

  answer_is : (offset group : ℕ) (f : Form) (bytes : List ℕ)
      → answer_to table (placed_part group offset f bytes) ≡ answer_of (Some room) (begun_over (Some room) group parts) f bytes
  answer_is offset group f bytes =
      ap (λ r. answer_of (Some r) (begun_in table group) f bytes) (table_room room parts)
      ∙ ap (λ begun. answer_of (Some room) begun f bytes) (fed.begun room parts least (parts_in_range past are) group)

  said_is : (packet : Packet) → said_of_packet table packet ≡ said_by room parts packet
  said_is (packets.Exclusive g f b) =
      ap (said_of g) (answer_is 0 g f b)
      ∙ said_is_ended (Some room) (begun_over (Some room) g parts) g f b
      ∙ ap (λ before. option_map (λ payload. said_in g (framed payload)) (ended_by (Some room) f before b))
      (begun-bytes (opened (Some room) g parts))
  said_is (packets.Stream f s l w x y) = refl
  said_is (packets.Utility s v) = refl
  said_is (packets.System g m) = refl
  said_is (packets.Voice1 g m) = refl
  said_is (packets.Voice2 g m) = refl
  said_is (packets.Data8 g w) = refl
  said_is (packets.Flex g w) = refl
  said_is (packets.Reserved w) = refl

  module _ (setup : SetupData) where
    abbrev now : EndpointState
    now = held_over setup room past

    abbrev received : List Received
    received = received_in_packets room past

    pub refusal_is : (packet : Packet) → refusal_in now packet ≡ bad_part (Some room) parts (part_of 0 packet)
    refusal_is (packets.Exclusive g f b) =
        ap refusal_of (answer_is 0 g f b)
        ∙ too_long_is_refused (Some room) (begun_over (Some room) g parts) f b
        ∙ ap (λ before. if (if goes_on f then passes_by (Some room) before b else false) then Some bad.ExclusiveTooLong else None)
        (begun-bytes (opened (Some room) g parts))
    refusal_is (packets.Stream f s l w x y) = refl
    refusal_is (packets.Utility s v) = refl
    refusal_is (packets.System g m) = refl
    refusal_is (packets.Voice1 g m) = refl
    refusal_is (packets.Voice2 g m) = refl
    refusal_is (packets.Data8 g w) = refl
    refusal_is (packets.Flex g w) = refl
    refusal_is (packets.Reserved w) = refl

    listed_is : (offset : ℕ) (packet : Packet)
        → listed_in now offset packet ≡ packet_listed room past (record { offset = offset; packet = packet })
    listed_is offset (packets.Exclusive g f b) =
        ap (listed_of g offset) (answer_is offset g f b)
        ∙ lost_is_listed (Some room) (begun_over (Some room) g parts) g offset f b
        ∙ ap (λ start. exclusive_listed start (record { group = g; form = f; bytes = b; offset = offset })) (begun-start (opened (Some room) g parts))
    listed_is offset (packets.Stream f s l w x y) = refl
    listed_is offset (packets.Utility s v) = refl
    listed_is offset (packets.System g m) = refl
    listed_is offset (packets.Voice1 g m) = refl
    listed_is offset (packets.Voice2 g m) = refl
    listed_is offset (packets.Data8 g w) = refl
    listed_is offset (packets.Flex g w) = refl
    listed_is offset (packets.Reserved w) = refl

    pub packet_listed_is : (placed : Placed) → listed_in now placed.offset placed.packet ≡ packet_listed room past placed
    packet_listed_is placed = listed_is placed.offset placed.packet

    parts_next : (offset : ℕ) (packet : Packet)
        → with_part_of (part_of offset packet) table ≡ table_over room (parts_of (record { offset = offset; packet = packet } ∷ past))
    parts_next offset (packets.Exclusive g f b) = refl
    parts_next offset (packets.Stream f s l w x y) = refl
    parts_next offset (packets.Utility s v) = refl
    parts_next offset (packets.System g m) = refl
    parts_next offset (packets.Voice1 g m) = refl
    parts_next offset (packets.Voice2 g m) = refl
    parts_next offset (packets.Data8 g w) = refl
    parts_next offset (packets.Flex g w) = refl
    parts_next offset (packets.Reserved w) = refl

    module _ (history : HeldIsTheHistory) where
      pub packet_replies_are : (placed : Placed) → replies_in now placed.packet ≡ packet_replies setup room past placed
      packet_replies_are placed =
          let stream : List Packet = stream_packet_replies setup (in_force setup past) placed.packet in
          ap (λ said. stream ++ part_replies (responder_at setup room received) said) (said_is placed.packet)
          ∙ ap (λ xs. stream ++ xs) (replies_are history setup room received (said_by room parts placed.packet))

      heard_by : (packet : Packet)
          → option_map (said_outcome_in (responder_at setup room received)) (said_of_packet table packet)
          ≡ option_map (said_outcome setup received) (said_by room parts packet)
      heard_by packet =
          ap (option_map (said_outcome_in (responder_at setup room received))) (said_is packet)
          ∙ outcome_are history setup room received (said_by room parts packet)

      outcome_at : (packet : Packet)
          → outcome_in now packet ≡ outcome_by setup (in_force setup past) received (said_by room parts packet) packet
      outcome_at (packets.Stream f s l w x y) = refl
      outcome_at (packets.Exclusive g f b) = heard_by (packets.Exclusive g f b)
      outcome_at (packets.Utility s v) = refl
      outcome_at (packets.System g m) = refl
      outcome_at (packets.Voice1 g m) = refl
      outcome_at (packets.Voice2 g m) = refl
      outcome_at (packets.Data8 g w) = refl
      outcome_at (packets.Flex g w) = refl
      outcome_at (packets.Reserved w) = refl

      pub packet_outcome_is : (placed : Placed) → outcome_in now placed.packet ≡ packet_outcome setup room past placed
      packet_outcome_is placed = outcome_at placed.packet

      responder_is : profiles_are_distinct setup.profiles ≡ true → (placed : Placed)
          → after_part (responder_at setup room received) (said_of_packet table placed.packet)
          ≡ responder_at setup room (received_in_packets room (placed ∷ past))
      responder_is distinct placed =
          ap (after_part (responder_at setup room received)) (said_is placed.packet)
          ∙ after_is history setup room received distinct (said_by room parts placed.packet)

      pub held_next : profiles_are_distinct setup.profiles ≡ true → (placed : Placed)
          → protocol_after_packet setup (in_force setup past) placed.packet ≡ in_force setup (placed ∷ past)
          → after_packet placed.offset placed.packet now ≡ held_over setup room (placed ∷ past)
      held_next distinct placed protocol =
          let made : ℕ → Table → Held → EndpointState = λ p t h. record { setup = setup; protocol = p; exclusives = t; responder = h } in
          ap (λ p. made p (with_part_of (part_of placed.offset placed.packet) table)
          (after_part (responder_at setup room received) (said_of_packet table placed.packet)))
          protocol
          ∙ ap (λ t. made (in_force setup (placed ∷ past)) t
          (after_part (responder_at setup room received) (said_of_packet table placed.packet)))
          (parts_next placed.offset placed.packet)
          ∙ ap (made (in_force setup (placed ∷ past)) (table_over room (parts_of (placed ∷ past)))) (responder_is distinct placed)
