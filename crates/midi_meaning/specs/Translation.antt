-- When pairs of lane and bytes are a translation of a recording, in whatever style they are written.
use Rattle.std.specs.Prelude.{◌≡◌, ℕ, Bool, true, List, [], ◌∷◌, ◌++◌, length, take, map, reverse, Option, Some}
use Rattle.ump_grammar.specs.declared.packet.Packet.{Packet}
use Rattle.midi_meaning.specs.Messages.{mean1}
use Rattle.listing_terms.specs.Parts.{group_of, whole_of}
use Rattle.midi_meaning.specs.Packets.{mean2}
use Rattle.midi_meaning.specs.Agreement.{Agrees}
use Rattle.midi_meaning.specs.Listing.{is_carried}
use Rattle.midi_meaning.specs.Lanes.{lane_bytes}

abbrev pub lane_by : Option ℕ → Bool → List ℕ
lane_by (Some lane) true = lane ∷ []
lane_by _ _ = []

module _ (paired : Bool) where
  abbrev pub lanes_over : List Packet → List ℕ
  lanes_over [] = []
  lanes_over (packet ∷ past) = lanes_over past ++ lane_by (group_of packet) (is_carried paired (whole_of past packet) packet)

  -- the lanes of the packets that are carried, in the order in which they came
  abbrev pub carried_lanes : List Packet → List ℕ
  carried_lanes packets = lanes_over (reverse packets)

  -- the pairs for the packets that are carried among the first ones
  abbrev pub first_pairs : ℕ → List Packet → List (ℕ × List ℕ) → List (ℕ × List ℕ)
  first_pairs count packets pairs = take (length (carried_lanes (take count packets))) pairs

  -- One pair for each packet that is carried, in the lane of its group. After each packet the bytes so far of
  -- each lane mean what the packets so far of its group mean.
  pub record IsTranslation (packets : List Packet) (pairs : List (ℕ × List ℕ)) : Type 0 where
    pub lanes : map (λ pair. pair.0) pairs ≡ carried_lanes packets
    pub agrees : (count group : ℕ)
        → Agrees paired (mean1 paired (lane_bytes group (first_pairs count packets pairs))) (mean2 paired (take count packets) group)
