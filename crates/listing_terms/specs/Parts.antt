-- The packets of a stream, and what they have of exclusives. Lists are newest first.
use Rattle.std.specs.Prelude.{ℕ, ◌==◌, Bool, false, List, [], ◌∷◌, ◌++◌, Option, Some, None}
use Rattle.std.specs.Option.{option_to_list, option_and_then}
use Rattle.ump_grammar.specs.declared.packet.Packet.{Packet}
use Rattle.ump_grammar.specs.declared.packet.Packet.TheVariants as packet
use Rattle.sysex_groups.specs.Exclusives.{Part, Room, ended}

-- a packet and the number of bytes before it
pub record Placed : Type 0 where
  pub offset : ℕ
  pub packet : Packet

-- the group of a packet; utility and stream messages and reserved packets have none
abbrev pub group_of : Packet → Option ℕ
group_of (packet.System group message) = Some group
group_of (packet.Voice1 group message) = Some group
group_of (packet.Exclusive group form bytes) = Some group
group_of (packet.Voice2 group message) = Some group
group_of (packet.Data8 group words) = Some group
group_of (packet.Flex group words) = Some group
group_of _ = None

abbrev pub is_group : Option ℕ → ℕ → Bool
is_group None group = false
is_group (Some own) group = own == group

-- what a packet at this offset has of an exclusive
abbrev pub part_of : ℕ → Packet → Option Part
part_of offset (packet.Exclusive group form bytes) = Some (record { group = group; form = form; bytes = bytes; offset = offset })
part_of offset _ = None

-- Packets of other kinds don't end an exclusive (own rule).
abbrev pub parts_of : List Placed → List Part
parts_of [] = []
parts_of (placed ∷ past) = option_to_list (part_of placed.offset placed.packet) ++ parts_of past

-- the same if no offset is asked for
abbrev pub packet_parts : List Packet → List Part
packet_parts [] = []
packet_parts (packet ∷ past) = option_to_list (part_of 0 packet) ++ packet_parts past

-- the bytes of the exclusive that a packet ends after these parts, if it ends one
abbrev pub whole_by : Room → List Part → Packet → Option (List ℕ)
whole_by room parts packet = option_and_then (ended room parts) (part_of 0 packet)

-- the same after packets of all groups, with a limit that isn't reached
abbrev pub whole_of : List Packet → Packet → Option (List ℕ)
whole_of past packet = whole_by None (packet_parts past) packet
