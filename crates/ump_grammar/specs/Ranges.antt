-- The packets that some words spell without a reason to refuse them: each field fits its place.
use Rattle.std.specs.Prelude.{◌≡◌, ◌^◌, ◌<◌, ◌≤◌, false, length}
use Rattle.std.specs.List.{All}
use Rattle.packet_words.specs.Words.{IsWhole}
use Rattle.voice_messages.specs.Ranges.{IsVoice1, IsVoice2, IsSystem}
use Rattle.ump_grammar.specs.declared.packet.Packet.{Packet}
use Rattle.ump_grammar.specs.declared.packet.Packet.TheVariants as packet
use Rattle.ump_grammar.specs.WordFields.{type_of, group_of}
use Rattle.ump_grammar.specs.Spelling.{has_row}

abbrev pub IsPacket : Packet → Type 0
IsPacket (packet.Utility status value) = (status ≤ 4) × (value < 2 ^ 20)
IsPacket (packet.System group message) = (group < 16) × IsSystem message
IsPacket (packet.Voice1 group message) = (group < 16) × IsVoice1 message
IsPacket (packet.Exclusive group form bytes) = (group < 16) × (length bytes ≤ 6) × All (λ b. b < 128) bytes
IsPacket (packet.Voice2 group message) = (group < 16) × IsVoice2 message
IsPacket (packet.Data8 group words) = IsWhole words × (type_of words ≡ 0x5) × (group ≡ group_of words)
IsPacket (packet.Flex group words) = IsWhole words × (type_of words ≡ 0xD) × (group ≡ group_of words)
IsPacket (packet.Stream format status low second third fourth) =
    (format < 4) × (status < 2 ^ 10) × (low < 2 ^ 16) × (second < 2 ^ 32) × (third < 2 ^ 32) × (fourth < 2 ^ 32)
IsPacket (packet.Reserved words) = IsWhole words × (has_row words ≡ false)
