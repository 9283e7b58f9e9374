-- What holds of all streams of bytes that are raised to packets. Bytes that are called `past` are listed
-- newest first.
use Rattle.std.specs.Prelude.{◌≡◌, ◌<◌, ℕ, List, [], ◌∷◌, ◌++◌, map, reverse, take, Some, None, Bool}
use Rattle.std.specs.List.{AllByRecursion}
use Rattle.ump_grammar.specs.declared.packet.Packet.{Packet}
use Rattle.ump_grammar.specs.Ranges.{IsPacket}
use Rattle.sysex_groups.specs.Exclusives.{opened}
use Rattle.midi1_bytes.specs.Messages.{AreData}
use Rattle.midi1_bytes.specs.Steps.{step_of}
use Rattle.midi1_bytes.specs.Stream.{Room, open_in}
use Rattle.midi_meaning.specs.Agreement.{Agrees}
use Rattle.midi_meaning.specs.Back.{back, back_of_bytes, SameState, AllComeBack}
use Rattle.midi_meaning.specs.Lanes.{lane_bytes, plain_pairs}
use Rattle.midi_meaning.specs.Listing.{lines_over, end_lines}
use Rattle.midi_meaning.specs.Messages.{meaning1, mean1}
use Rattle.midi_meaning.specs.Packets.{meaning2, mean2, IsInRange}
use Rattle.listing_terms.specs.Parts.{Placed, parts_of}
use Rattle.midi_meaning.specs.Raising.{packets_at, packets_up, packets_of_bytes, exclusive_packet}
use Rattle.midi_meaning.specs.StepListing.{lines_up, lines_up_to_end}
use Rattle.midi_meaning.specs.UpRefusal.{AreStepsWithinRoom, AreAcceptedUp}

module _ (paired : Bool) where
  pub record RaisedPacketsMeanTheBytes : Type 0 where
    pub behind : (group : ℕ) (past : List ℕ) →
        Agrees paired (meaning1 paired past) (meaning2 paired (reverse (packets_up paired None group past)) group)
    pub after_each : (group count : ℕ) (bytes : List ℕ) →
        Agrees paired (mean1 paired (take count bytes)) (mean2 paired (packets_of_bytes paired None group (take count bytes)) group)

  pub record RaisedPacketsAreInRange : Type 0 where
    pub packets : (room : Room) (group : ℕ) (past : List ℕ) (byte : ℕ) → group < 16 →
        AllByRecursion IsPacket (packets_at paired room group past byte)
    pub in_range : (room : Room) (group : ℕ) (past : List ℕ) (byte : ℕ) → group < 16 →
        AllByRecursion IsInRange (packets_at paired room group past byte)
    pub all_packets : (room : Room) (group : ℕ) (past : List ℕ) → group < 16 →
        AllByRecursion IsPacket (packets_up paired room group past)
    pub all_in_range : (room : Room) (group : ℕ) (past : List ℕ) → group < 16 →
        AllByRecursion IsInRange (packets_up paired room group past)
    pub exclusive : (group : ℕ) (payload : List ℕ) (k : ℕ) → group < 16 → AreData payload →
        IsPacket (exclusive_packet group payload k) × IsInRange (exclusive_packet group payload k)

  pub record RoomsThatAreNotReachedDoNotMatterInBytes : Type 0 where
    pub step : (room : ℕ) (past : List ℕ) (byte : ℕ) → AreStepsWithinRoom room (byte ∷ past) →
        step_of (Some room) past byte ≡ step_of None past byte
    pub left_open : (room : ℕ) (past : List ℕ) → AreStepsWithinRoom room past →
        open_in (Some room) past ≡ open_in None past
    pub packets : (room group : ℕ) (past : List ℕ) → AreStepsWithinRoom room past →
        packets_up paired (Some room) group past ≡ packets_up paired None group past
    pub pieces : (room group : ℕ) (past : List ℕ) → AreStepsWithinRoom room past →
        back paired (Some room) group past ≡ back paired None group past
    pub lines : (room group : ℕ) (past : List ℕ) → AreStepsWithinRoom room past →
        lines_up paired (Some room) group past ≡ lines_up paired None group past
    pub lines_to_end : (room group : ℕ) (past : List ℕ) → AreStepsWithinRoom room past →
        lines_up_to_end paired (Some room) group past ≡ lines_up_to_end paired None group past
    pub accepted : (room : ℕ) (past : List ℕ) → AreAcceptedUp (Some room) past → AreStepsWithinRoom room past

  pub record BytesThatComeBackMeanTheSame : Type 0 where
    pub behind : (group : ℕ) (past : List ℕ) → group < 16 →
        SameState (meaning1 paired (reverse (back paired None group past))) (meaning1 paired past)
    pub after_each : (group count : ℕ) (bytes : List ℕ) → group < 16 →
        SameState (mean1 paired (back_of_bytes paired None group (take count bytes))) (mean1 paired (take count bytes))
    pub lane : (room : Room) (group : ℕ) (past : List ℕ) →
        back paired room group past ≡ lane_bytes group (plain_pairs paired (packets_up paired room group past))

  pub record RaisedPacketsComeBackInSilence : Type 0 where
    pub each : (room group : ℕ) (past : List ℕ) (packets more : List Packet) (placed : List Placed) →
        packets ++ more ≡ packets_up paired (Some room) group past →
        map (λ placed. placed.packet) placed ≡ reverse packets → AllComeBack paired room placed
    pub nothing_begun : (room group : ℕ) (past : List ℕ) (placed : List Placed) →
        map (λ placed. placed.packet) placed ≡ reverse (packets_up paired (Some room) group past) →
        (other : ℕ) → opened (Some room) other (parts_of placed) ≡ None
    pub nothing_listed : (room group : ℕ) (past : List ℕ) (placed : List Placed) →
        map (λ placed. placed.packet) placed ≡ reverse (packets_up paired (Some room) group past) →
        lines_over paired (Some room) placed ++ end_lines (Some room) (parts_of placed) ≡ []
