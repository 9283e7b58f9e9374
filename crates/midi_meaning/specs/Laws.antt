-- What holds of all recordings.
use Rattle.std.specs.Prelude.{◌≡◌, ◌↔◌, ◌<◌, ℕ, List, map, length, Option, Some, None, IsTrue, false, Bool}
use Rattle.std.specs.List.{AllByRecursion}
use Rattle.ump_grammar.specs.declared.packet.Packet.{Packet}
use Rattle.sysex_groups.specs.Exclusives.{Part, joined, opened, ended, passes_room}
use Rattle.midi_meaning.specs.Lanes.{plain_pairs}
use Rattle.midi_meaning.specs.Listing.{is_carried}
use Rattle.midi_meaning.specs.Packets.{IsInRange}
use Rattle.listing_terms.specs.Parts.{Placed, parts_of, packet_parts}
use Rattle.midi_meaning.specs.Plain.{plain_piece}
use Rattle.midi_meaning.specs.Rooms.{AreWithinRoom}
use Rattle.midi_meaning.specs.Translation.{IsTranslation}

module _ (paired : Bool) where
  abbrev pub PlainPairsAreATranslation : Type 0
  PlainPairsAreATranslation =
      (packets : List Packet) → AllByRecursion IsInRange packets → IsTranslation paired packets (plain_pairs paired packets)

  abbrev pub CarriedPacketsHaveAPiece : Type 0
  CarriedPacketsHaveAPiece =
      (whole : Option (List ℕ)) (packet : Packet) →
      IsTrue (is_carried paired whole packet) ↔ (0 < length (plain_piece paired whole packet))

abbrev pub JoinedBytesKnowNoOffsets : Type 0
JoinedBytesKnowNoOffsets =
    (group : ℕ) (past : List Placed) →
    joined None group (parts_of past) ≡ joined None group (packet_parts (map (λ placed. placed.packet) past))

pub record RoomsThatAreNotPassedDoNotMatter : Type 0 where
  pub opened : (room group : ℕ) (past : List Part) → AreWithinRoom room past →
      opened (Some room) group past ≡ opened None group past
  pub ended : (room : ℕ) (past : List Part) (part : Part) → AreWithinRoom room past →
      passes_room (Some room) past part ≡ false → ended (Some room) past part ≡ ended None past part
