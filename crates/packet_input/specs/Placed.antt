-- The packets of a recording at their offsets.
use Rattle.std.specs.Prelude.{List, map}
use Rattle.packet_words.specs.declared.words.Framed.{Framed}
use Rattle.ump_grammar.specs.declared.packet.Packet.{Packet}
use Rattle.listing_terms.specs.Parts.{Placed}

-- the packet and the number of bytes before it
abbrev pub placed_of : Framed × Packet → Placed
placed_of item = record { offset = item.0.offset; packet = item.1 }

abbrev pub all_placed : List (Framed × Packet) → List Placed
all_placed items = map placed_of items
