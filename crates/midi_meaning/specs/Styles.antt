-- A recording in either style: the pairs of lane and piece, in which a piece may depend on the bytes of its
-- lane so far.
use Rattle.std.specs.Prelude.{ℕ, List, [], ◌∷◌, ◌++◌, reverse, Option, Some, None, Bool}
use Rattle.ump_grammar.specs.declared.packet.Packet.{Packet}
use Rattle.listing_terms.specs.Parts.{group_of, whole_of}
use Rattle.midi_meaning.specs.Listing.{is_carried}
use Rattle.midi_meaning.specs.Plain.{plain_piece}
use Rattle.midi_meaning.specs.Lanes.{pair_by, lane_bytes}
use Rattle.midi_meaning.specs.Compact.{compact_piece}

-- each message with its status byte; only what a receiver doesn't have
pub data Style : Type 0 where
  plain_style : Style
  compact_style : Style

-- the bytes so far of the lane of a group, newest first
abbrev pub lane_so_far : Option ℕ → List (ℕ × List ℕ) → List ℕ
lane_so_far None pairs = []
lane_so_far (Some lane) pairs = reverse (lane_bytes lane pairs)

-- ---- with paired controllers or without

module _ (paired : Bool) where
  -- the piece of a packet after these bytes of its lane, newest first
  abbrev pub piece_in : Style → List ℕ → Option (List ℕ) → Packet → List ℕ
  piece_in plain_style past whole packet = plain_piece paired whole packet
  piece_in compact_style past whole packet = compact_piece paired past whole packet

  -- one pair for a packet that is carried, after these pairs and packets; the packets are newest first
  abbrev pub styled_pair : Style → List (ℕ × List ℕ) → List Packet → Packet → List (ℕ × List ℕ)
  styled_pair style pairs past packet =
      pair_by (group_of packet) (is_carried paired (whole_of past packet) packet)
      (piece_in style (lane_so_far (group_of packet) pairs) (whole_of past packet) packet)

  abbrev pub styled_over : Style → List Packet → List (ℕ × List ℕ)
  styled_over style [] = []
  styled_over style (packet ∷ past) =
      styled_over style past ++ styled_pair style (styled_over style past) past packet

  -- the pairs of packets, both in the order in which they came
  abbrev pub styled_pairs : Style → List Packet → List (ℕ × List ℕ)
  styled_pairs style packets = styled_over style (reverse packets)
