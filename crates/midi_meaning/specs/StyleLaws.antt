-- What holds of all recordings in either style.
use Rattle.std.specs.Prelude.{◌≡◌, ◌↔◌, ◌<◌, ◌/◌, ◌%◌, ℕ, List, [], ◌∷◌, ◌++◌, length}
use Rattle.std.specs.Prelude.{reverse, Option, None, Some, IsTrue, IfSome, Bool, true, false}
use Rattle.std.specs.List.{AllByRecursion}
use Rattle.voice_messages.specs.declared.voice1.System.{System}
use Rattle.voice_messages.specs.declared.voice1.Voice1.{Voice1}
use Rattle.voice_messages.specs.declared.voice1.Voice1.TheVariants as voice1
use Rattle.voice_messages.specs.declared.voice2.Bank.{Bank}
use Rattle.voice_messages.specs.declared.voice2.Form.{Form}
use Rattle.voice_messages.specs.declared.voice2.Param.{Param}
use Rattle.voice_messages.specs.declared.voice2.Voice2.TheVariants as voice2
use Rattle.ump_grammar.specs.declared.packet.Packet.{Packet}
use Rattle.ump_grammar.specs.declared.packet.Packet.TheVariants as packet
use Rattle.bit_scaling.specs.Scaling.{down14}
use Rattle.midi1_bytes.specs.Messages.{AreData, spelled_voice, voice}
use Rattle.midi1_bytes.specs.RunningStatus.{without_status, written_behind}
use Rattle.midi1_bytes.specs.Stream.{open_in, running}
use Rattle.midi_meaning.specs.Agreement.{SameRegisters}
use Rattle.midi_meaning.specs.Compact.{since_reset, compact_piece, has_bank, is_selected, registers_in}
use Rattle.midi_meaning.specs.LaneState.{LaneState, compact_by, lane_state_after, lane_state_over, new_lane}
use Rattle.midi_meaning.specs.Lanes.{lane_bytes, pairs_over}
use Rattle.midi_meaning.specs.Listing.{is_carried}
use Rattle.midi_meaning.specs.Messages.{mean1}
use Rattle.midi_meaning.specs.Packets.{mean2, IsInRange}
use Rattle.listing_terms.specs.Parts.{whole_of}
use Rattle.midi_meaning.specs.Plain.{plain_messages, plain_piece}
use Rattle.midi_meaning.specs.Registers.{is_null}
use Rattle.midi_meaning.specs.Relied.{IsLaneOf, IsRelied}
use Rattle.midi_meaning.specs.Styles.{Style, plain_style, compact_style, piece_in, styled_over, styled_pair, styled_pairs}
use Rattle.midi_meaning.specs.Translation.{IsTranslation}

-- whether a packet selects a parameter or a bank
abbrev pub selects : Packet → Bool
selects (packet.Voice2 group (voice2.Set channel param value)) = true
selects (packet.Voice2 group (voice2.Program channel program (Some bank))) = true
selects packet = false

module _ (paired : Bool) where
  abbrev pub StyledPairsAreATranslation : Type 0
  StyledPairsAreATranslation =
      (style : Style) (packets : List Packet) → AllByRecursion IsInRange packets →
      IsTranslation paired packets (styled_pairs paired style packets)

  pub record StyledPairsComePacketByPacket : Type 0 where
    pub more : (style : Style) (packets : List Packet) (packet : Packet) →
        styled_pairs paired style (packets ++ packet ∷ []) ≡
        styled_pairs paired style packets ++ styled_pair paired style (styled_pairs paired style packets) (reverse packets) packet
    pub plain : (past : List Packet) → styled_over paired plain_style past ≡ pairs_over paired past

  abbrev pub StyledPiecesAreThoseOfCarriedPackets : Type 0
  StyledPiecesAreThoseOfCarriedPackets =
      (style : Style) (past : List ℕ) (whole : Option (List ℕ)) (packet : Packet) →
      IsTrue (is_carried paired whole packet) ↔ (0 < length (piece_in paired style past whole packet))

  -- system messages and exclusives are written as in plain style
  pub record SystemPiecesArePlain : Type 0 where
    pub system : (past : List ℕ) (whole : Option (List ℕ)) (group : ℕ) (message : System) →
        compact_piece paired past whole (packet.System group message) ≡ plain_piece paired whole (packet.System group message)
    pub exclusive : (past : List ℕ) (whole : Option (List ℕ)) (group : ℕ) (form : Form) (bytes : List ℕ) →
        compact_piece paired past whole (packet.Exclusive group form bytes) ≡
        plain_piece paired whole (packet.Exclusive group form bytes)

  -- Compact style leaves out each status byte that equals the running status. It leaves out the two control
  -- changes that select the parameter of a Set, if that one is selected, and the two that select the bank of
  -- a Program, if that one is held. It leaves out nothing else. A MIDI 1.0 voice message loses at most its
  -- status byte, even if it selects what is already selected, and all other packets have their plain
  -- messages.
  pub record CompactLeavesOutWhatIsHeld : Type 0 where
    pub midi1 : (past : List ℕ) (whole : Option (List ℕ)) (group : ℕ) (message : Voice1) →
        compact_piece paired past whole (packet.Voice1 group message) ≡
        without_status (running (since_reset past)) (spelled_voice message)
    pub other : (past : List ℕ) (whole : Option (List ℕ)) (packet : Packet) → selects packet ≡ false →
        compact_piece paired past whole packet ≡ written_behind (since_reset past) (plain_messages paired whole packet)
    pub new_parameter : (past : List ℕ) (whole : Option (List ℕ)) (group channel value : ℕ) (param : Param) →
        is_selected (registers_in paired (since_reset past) channel) param ≡ false →
        compact_piece paired past whole (packet.Voice2 group (voice2.Set channel param value)) ≡
        written_behind (since_reset past) (plain_messages paired whole (packet.Voice2 group (voice2.Set channel param value)))
    pub new_bank : (past : List ℕ) (whole : Option (List ℕ)) (group channel program : ℕ) (bank : Bank) →
        has_bank (registers_in paired (since_reset past) channel) bank ≡ false →
        compact_piece paired past whole (packet.Voice2 group (voice2.Program channel program (Some bank))) ≡
        written_behind (since_reset past)
        (plain_messages paired whole (packet.Voice2 group (voice2.Program channel program (Some bank))))
    pub parameter : (past : List ℕ) (whole : Option (List ℕ)) (group channel value : ℕ) (param : Param) →
        is_null param ≡ false → is_selected (registers_in paired (since_reset past) channel) param ≡ true →
        compact_piece paired past whole (packet.Voice2 group (voice2.Set channel param value)) ≡
        written_behind (since_reset past)
        (voice (voice1.Control channel 6 (down14 value / 128)) ∷ voice (voice1.Control channel 38 (down14 value % 128)) ∷ [])
    pub program : (past : List ℕ) (whole : Option (List ℕ)) (group channel program : ℕ) (bank : Bank) →
        has_bank (registers_in paired (since_reset past) channel) bank ≡ true →
        compact_piece paired past whole (packet.Voice2 group (voice2.Program channel program (Some bank))) ≡
        without_status (running (since_reset past)) (spelled_voice (voice1.Program channel program))

  -- what the bytes of a lane leave in a receiver
  pub record StyledLanesLeaveTheRegisters : Type 0 where
    pub registers : (style : Style) (packets : List Packet) (group : ℕ) → AllByRecursion IsInRange packets →
        SameRegisters (mean1 paired (lane_bytes group (styled_pairs paired style packets))) (mean2 paired packets group)
    pub closed : (style : Style) (packets : List Packet) (group : ℕ) → AllByRecursion IsInRange packets →
        open_in None (reverse (lane_bytes group (styled_pairs paired style packets))) ≡ None
    pub relied : (packets : List Packet) (group : ℕ) → AllByRecursion IsInRange packets →
        IsRelied paired (reverse (lane_bytes group (styled_pairs paired compact_style packets)))

  -- Any bytes of a lane, newest first, in which nothing is open, and the bytes of the exclusive that the
  -- packet ends.
  pub record KeptLanesAreThoseOfTheBytes : Type 0 where
    pub new : IsLaneOf paired new_lane []
    pub piece : (lane : LaneState) (past : List ℕ) (whole : Option (List ℕ)) (packet : Packet) →
        IsInRange packet → IfSome whole AreData → IsLaneOf paired lane past →
        compact_by paired lane whole packet ≡ compact_piece paired past whole packet
    pub after : (lane : LaneState) (past : List ℕ) (whole : Option (List ℕ)) (packet : Packet) →
        IsInRange packet → IfSome whole AreData → IsRelied paired past → IsLaneOf paired lane past →
        IsLaneOf paired (lane_state_after paired lane whole packet) (reverse (compact_piece paired past whole packet) ++ past)

  -- The same of a recording, whose packets are newest first.
  pub record KeptLanesAreThoseOfTheRecording : Type 0 where
    pub lane : (past : List Packet) (group : ℕ) → AllByRecursion IsInRange past →
        IsLaneOf paired (lane_state_over paired past group) (reverse (lane_bytes group (styled_over paired compact_style past)))
    pub piece : (past : List Packet) (packet : Packet) (group : ℕ) →
        AllByRecursion IsInRange past → IsInRange packet →
        compact_by paired (lane_state_over paired past group) (whole_of past packet) packet ≡
        piece_in paired compact_style (reverse (lane_bytes group (styled_over paired compact_style past)))
        (whole_of past packet) packet
