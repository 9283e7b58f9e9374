-- The packet to which a message is raised.
use Rattle.std.specs.Prelude.{◌≡◌, false}
use Rattle.ump_grammar.specs.declared.packet.Packet.{Packet}
use Rattle.ump_grammar.specs.declared.packet.Packet.TheVariants as packet
use Rattle.encoded_packets.specs.DirectMessages.{is_direct_voice}
use Rattle.up_translator.specs.DirectWords.{packet_of}
use Rattle.up_translator.specs.declared.raised_packet.PacketForm.{PacketForm}
use Rattle.up_translator.specs.declared.raised_packet.PacketForm.TheVariants as form

-- by how it is held
abbrev pub packet_by : PacketForm → Packet
packet_by (form.Value message) = packet_of message
packet_by (form.Voice2 group message) = packet.Voice2 group message
packet_by (form.System group message) = packet.System group message
packet_by (form.Exclusive group cut bytes) = packet.Exclusive group cut bytes

-- a direct message is held by its words
abbrev pub IsSorted : PacketForm → Type 0
IsSorted (form.Voice2 group message) = is_direct_voice message ≡ false
IsSorted _ = Unit {0}
