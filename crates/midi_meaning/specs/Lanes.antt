-- A recording of all groups and the MIDI 1.0 bytes of its lanes: each group has a lane of its own number.
use Rattle.std.specs.Prelude.{◌≡◌, ℕ, ◌<◌, ◌^◌, ◌==◌, Bool, true, if◌then◌else◌, List, [], ◌∷◌, ◌++◌, reverse, Option, Some, None}
use Rattle.std.specs.Option.{unwrap_or}
use Rattle.std.specs.List.{flat_map}
use Rattle.voice_messages.specs.declared.voice2.Param.{Param}
use Rattle.ump_grammar.specs.declared.packet.Packet.{Packet}
use Rattle.midi1_bytes.specs.Stream.{open_in}
use Rattle.midi_meaning.specs.Messages.{meaning1}
use Rattle.listing_terms.specs.Parts.{group_of, is_group, whole_of}
use Rattle.midi_meaning.specs.Packets.{meaning2}
use Rattle.midi_meaning.specs.Agreement.{Agrees, SameRegisters}
use Rattle.midi_meaning.specs.Listing.{is_carried}
use Rattle.midi_meaning.specs.Plain.{plain_piece}

-- ---- the pairs of lane and piece

abbrev pub pair_by : Option ℕ → Bool → List ℕ → List (ℕ × List ℕ)
pair_by (Some lane) true piece = (lane, piece) ∷ []
pair_by _ _ piece = []

-- the bytes of a lane
abbrev pub bytes_for : ℕ → ℕ × List ℕ → List ℕ
bytes_for lane pair = if pair.0 == lane then pair.1 else []

abbrev pub lane_bytes : ℕ → List (ℕ × List ℕ) → List ℕ
lane_bytes lane pairs = flat_map (bytes_for lane) pairs

module _ (paired : Bool) where
  -- one pair for a packet that is carried
  abbrev pub pair_of : List Packet → Packet → List (ℕ × List ℕ)
  pair_of past packet =
      let whole = whole_of past packet in
      pair_by (group_of packet) (is_carried paired whole packet) (plain_piece paired whole packet)

  abbrev pub pairs_over : List Packet → List (ℕ × List ℕ)
  pairs_over [] = []
  pairs_over (packet ∷ past) = pairs_over past ++ pair_of past packet

  -- the pairs of packets, both in the order in which they came
  abbrev pub plain_pairs : List Packet → List (ℕ × List ℕ)
  plain_pairs packets = pairs_over (reverse packets)

  -- ---- packet by packet

  -- The bytes of a lane and the packets of all groups, both newest first: the bytes mean what the group's
  -- packets mean, they leave the same registers, and nothing is open in them. Values of parameters and of
  -- controllers have at most fourteen bits.
  pub record Denotes (bytes : List ℕ) (past : List Packet) (group : ℕ) : Type 0 where
    pub agrees : Agrees paired (meaning1 paired bytes) (meaning2 paired past group)
    pub registers : SameRegisters (meaning1 paired bytes) (meaning2 paired past group)
    pub closed : open_in None bytes ≡ None
    pub bounded : (channel : ℕ) (param : Param) → unwrap_or (((meaning1 paired bytes).channels channel).params param) 0 < 2 ^ 14
    pub controllers_bounded : (channel index : ℕ) → unwrap_or (((meaning1 paired bytes).channels channel).controllers index) 0 < 2 ^ 14

  -- the bytes of a group's lane after one more packet
  abbrev pub lane_after : List ℕ → List Packet → Packet → ℕ → List ℕ
  lane_after bytes past packet group =
      if is_group (group_of packet) group then reverse (plain_piece paired (whole_of past packet) packet) ++ bytes
      else bytes
