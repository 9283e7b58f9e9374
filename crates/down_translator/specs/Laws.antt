-- What holds of all recordings. Packets are listed newest first.
use Rattle.std.specs.Prelude.{◌≡◌, ◌≢◌, ◌≤◌, ◌<◌, ℕ, List, ◌∷◌, reverse, Some, None, Bool}
use Rattle.ump_grammar.specs.declared.packet.Packet.{Packet}
use Rattle.ump_grammar.specs.Ranges.{IsPacket}
use Rattle.midi_meaning.specs.declared.listed.BadStep.{BadStep}
use Rattle.midi_meaning.specs.declared.listed.BadStep.TheVariants as bad
use Rattle.midi_meaning.specs.Parts.{Placed, parts_of, whole_by}
use Rattle.midi_meaning.specs.Packets.{IsInRange}
use Rattle.midi_meaning.specs.Listing.{begun_before, line_of}
use Rattle.midi_meaning.specs.Lanes.{lane_bytes}
use Rattle.midi_meaning.specs.Relied.{IsLaneOf, IsRelied}
use Rattle.midi_meaning.specs.Styles.{Style, plain_style, compact_style, styled_over, styled_pair}
use Rattle.midi_meaning.specs.Plain.{plain_piece}
use Rattle.midi_meaning.specs.Refusal.{bad_step}
use Rattle.down_translator.specs.declared.carried.Carried.{Carried}
use Rattle.down_translator.specs.Carried.{line_in}
use Rattle.down_translator.specs.Held.{DownState, paired_of, style_of, whole_in, begun_at_in, refusal_in, down_after}
use Rattle.down_translator.specs.KeptLanes.{lane_at}
use Rattle.down_translator.specs.Step.{piece_of, IsStep}
use Rattle.down_translator.specs.Recording.{packets_of, AreInRange, state_of, AreAccepted, pair_put}

abbrev pub SpelledPacketsAreInRange : Type 0
SpelledPacketsAreInRange = (packet : Packet) → IsPacket packet → IsInRange packet

module _ (paired : Bool) where
  pub record WhatIsHeldIsTheDefinition : Type 0 where
    pub style : (style : Style) (room : ℕ) (past : List Placed) → style_of (state_of paired style room past) ≡ style
    pub paired_is : (style : Style) (room : ℕ) (past : List Placed) → paired_of (state_of paired style room past) ≡ paired
    pub plain : (room : ℕ) (past : List Placed) (packet : Packet) →
        piece_of (state_of paired plain_style room past) packet
        ≡ plain_piece paired (whole_in (state_of paired plain_style room past) packet) packet
    pub whole : (style : Style) (room : ℕ) (past : List Placed) → 6 ≤ room → AreInRange past → (packet : Packet) →
        whole_in (state_of paired style room past) packet ≡ whole_by (Some room) (parts_of past) packet
    pub begun : (style : Style) (room : ℕ) (past : List Placed) → 6 ≤ room → AreInRange past → (packet : Packet) →
        begun_at_in (state_of paired style room past) packet ≡ begun_before (Some room) (parts_of past) packet
    pub refusal : (style : Style) (room : ℕ) (past : List Placed) → 6 ≤ room → AreInRange past → (packet : Packet) →
        refusal_in (state_of paired style room past) packet ≡ bad_step (Some room) (parts_of past) packet
    pub behind : (style : Style) (room : ℕ) (past : List Placed) (placed : Placed) →
        down_after placed.offset placed.packet (state_of paired style room past) ≡ state_of paired style room (placed ∷ past)
    -- a data increment or decrement, which is refused, leaves the translator as it was
    pub unchanged : (state : DownState) (offset : ℕ) (packet : Packet) (why : BadStep) →
        refusal_in state packet ≡ Some why → why ≢ bad.ExclusiveTooLong → down_after offset packet state ≡ state

  -- What is kept of a lane in compact style, after packets that are accepted, is what the meaning gives on the lane's bytes after the
  -- last System Reset; each of these that is set is what the meaning gives on all of them.
  pub record WhatIsKeptIsTheMeaning : Type 0 where
    pub lane : (room : ℕ) (past : List Placed) (group : ℕ) → 6 ≤ room → AreInRange past → AreAccepted room past → group < 16 →
        IsLaneOf paired (lane_at (state_of paired compact_style room past).lanes.states group)
        (reverse (lane_bytes group (styled_over paired compact_style (packets_of past))))
    pub relied : (past : List Placed) (group : ℕ) → AreInRange past →
        IsRelied paired (reverse (lane_bytes group (styled_over paired compact_style (packets_of past))))

  pub record OneMoreAcceptedPacketAddsItsPairAndLine : Type 0 where
    pub pair : (style : Style) (room : ℕ) (past : List Placed) (placed : Placed) (carried : Carried) →
        6 ≤ room → AreInRange (placed ∷ past) → AreAccepted room past →
        IsStep (state_of paired style room past) placed.offset placed.packet carried →
        pair_put carried ≡ styled_pair paired style (styled_over paired style (packets_of past)) (packets_of past) placed.packet
    pub line : (style : Style) (room : ℕ) (past : List Placed) (placed : Placed) (carried : Carried) →
        6 ≤ room → AreInRange past →
        IsStep (state_of paired style room past) placed.offset placed.packet carried →
        line_in carried ≡ line_of paired (Some room) (parts_of past) placed
    pub without_room : (room : ℕ) (past : List Placed) (placed : Placed) →
        6 ≤ room → AreInRange past → AreAccepted room past →
        line_of paired (Some room) (parts_of past) placed ≡ line_of paired None (parts_of past) placed
