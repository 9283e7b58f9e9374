-- Direct messages, as the two words of their packets (M2-104-UM, MIDI 2.0 channel voice messages).
use Rattle.std.specs.Prelude.{◌≡◌, ◌≤◌, ◌/◌, ℕ}
use Rattle.ump_grammar.specs.WordFields.{field}
use Rattle.ump_grammar.specs.declared.packet.Packet.{Packet}
use Rattle.ump_grammar.specs.declared.packet.Packet.TheVariants as packet
use Rattle.encoded_packets.specs.declared.direct_message.DirectMessage.{DirectMessage}
use Rattle.encoded_packets.specs.DirectMessages.{IsDirectMessage, direct_voice}

-- the message with the fields of these words
abbrev pub message_in : ℕ → ℕ → DirectMessage
message_in first value = record {
  group = field first 24 4;
  status = field first 16 8;
  index = field first 8 8;
  attribute_type = field first 0 8;
  value = value;
}

-- A message whose packet has zeros in the places that its row does not name, and which has no attribute.
pub record IsRaisedDirect (m : DirectMessage) : Type 0 where
  pub is_message : IsDirectMessage m
  pub attribute : m.attribute_type ≡ 0
  pub index : 0xD ≤ m.status / 16 → m.index ≡ 0

-- its packet
abbrev pub packet_of : DirectMessage → Packet
packet_of m = packet.Voice2 m.group (direct_voice m)
