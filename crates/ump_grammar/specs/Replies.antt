-- Packets written one after the other.
use Rattle.std.specs.Prelude.{◌≡◌, ℕ, List, [], ◌∷◌, ◌++◌, length}
use Rattle.ump_grammar.specs.declared.packet.Packet.{Packet}
use Rattle.ump_grammar.specs.declared.packet.Packet.TheVariants as packet
use Rattle.ump_grammar.specs.Reading.{Encodes}

-- how many words a packet has (M2-104-UM, the table of message types)
abbrev pub word_count : Packet → ℕ
word_count (packet.Utility status value) = 1
word_count (packet.System group message) = 1
word_count (packet.Voice1 group message) = 1
word_count (packet.Exclusive group form bytes) = 2
word_count (packet.Voice2 group message) = 2
word_count (packet.Data8 group words) = 4
word_count (packet.Flex group words) = 4
word_count (packet.Stream format status low second third fourth) = 4
word_count (packet.Reserved words) = length words

-- the words of a packet were added at the end
pub record AddsPacket (packet : Packet) (old new : List ℕ) : Type 0 where
  pub words : List ℕ
  pub encoded : Encodes packet words
  pub added : new ≡ old ++ words

-- the words of these packets were added at the end, one packet after the other
abbrev pub AddsPackets : List Packet → List ℕ → List ℕ → Type 0
AddsPackets [] old new = new ≡ old
AddsPackets (packet ∷ packets) old new = (between : List ℕ) × AddsPacket packet old between × AddsPackets packets between new
