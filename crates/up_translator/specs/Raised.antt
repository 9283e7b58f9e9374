-- What is raised from a byte: its packets, beside its lines of the listing.
use Rattle.std.specs.Prelude.{ℕ, List, [], ◌∷◌, Option, Some, None}
use Rattle.std.specs.Option.{option_map}
use Rattle.ump_grammar.specs.declared.packet.Packet.{Packet}
use Rattle.midi_meaning.specs.Raising.{exclusive_packets}
use Rattle.listing_terms.specs.ByteLines.{group_of}
use Rattle.up_translator.specs.declared.raised.Raised.{Raised}

abbrev pub group_in : Raised → ℕ
group_in raised = group_of raised.lines

-- the packet of a message
abbrev pub packet_in : Raised → Option Packet
packet_in raised = option_map (λ packet. packet.now) raised.packet

-- the bytes of an exclusive between its F0 and its F7
abbrev pub payload_in : Raised → Option (List ℕ)
payload_in raised = option_map (λ payload. payload.now) raised.payload

-- the packets of both
abbrev pub packets_by : ℕ → Option Packet → Option (List ℕ) → List Packet
packets_by group None None = []
packets_by group (Some packet) None = packet ∷ []
packets_by group None (Some payload) = exclusive_packets group payload
packets_by group (Some packet) (Some payload) = packet ∷ exclusive_packets group payload

abbrev pub packets_in : Raised → List Packet
packets_in raised = packets_by (group_in raised) (packet_in raised) (payload_in raised)

abbrev pub AreApart : Option Packet → Option (List ℕ) → Type 0
AreApart (Some packet) (Some payload) = ⊥
AreApart _ _ = Unit {0}

-- at most one of the two is there
abbrev pub IsApart : Raised → Type 0
IsApart raised = AreApart (packet_in raised) (payload_in raised)
