-- The piece by what is kept of a lane is the one that looks back over the lane's bytes, and it is there exactly when the packet is
-- carried.
use Rattle.std.proofs.Common.{ℕ, ◌≡◌, ◌<◌, ◌+◌, ◌/◌, ◌%◌, ◌∙◌, ap, sym, refl, arith, List, [], ◌∷◌}
use Rattle.std.proofs.Common.{◌++◌, length, reverse, Option, Some, None, Bool, true, false, cond, not}
use Rattle.std.proofs.lemmas.Bool.{cond_both, eqb-true}
use Rattle.std.proofs.lemmas.Option.{same_Some}
use Rattle.std.specs.Prelude.{◌↔◌, ◌==◌, IsTrue, drop}
use lib.Dec.{eqb}
use Rattle.std.specs.List.{AllByRecursion}
use Rattle.voice_messages.specs.declared.voice1.Voice1.{Voice1}
use Rattle.voice_messages.specs.declared.voice1.Voice1.TheVariants as voice1
use Rattle.voice_messages.specs.declared.voice1.System.{System}
use Rattle.voice_messages.specs.declared.voice2.Voice2.{Voice2}
use Rattle.voice_messages.specs.declared.voice2.Voice2.TheVariants as voice2
use Rattle.voice_messages.specs.declared.voice2.Param.{Param}
use Rattle.voice_messages.specs.declared.voice2.Bank.{Bank}
use Rattle.ump_grammar.specs.declared.packet.Packet.{Packet}
use Rattle.ump_grammar.specs.declared.packet.Packet.TheVariants as packet
use Rattle.bit_scaling.specs.Scaling.{down7, down14, release_down, velocity_down}
use Rattle.midi1_bytes.specs.Laws.{StatusesThatRunCanBeLeftOut}
use Rattle.midi1_bytes.specs.Messages.{Message, exclusive, system_message, spelled, spelled_voice, voice}
use Rattle.midi1_bytes.specs.RunningStatus.{is_running, running_after, without_status, written_under}
use Rattle.midi1_bytes.specs.Sorts.{Sort, voice_status, sort_of}
use Rattle.midi1_bytes.specs.Stream.{last_status, running, running_by, running_under, without_real_time}
use Rattle.midi_meaning.specs.Registers.{Registers, is_null}
use Rattle.midi_meaning.specs.Controllers.{Role, channel_mode, reset_all, coarse, plain}
use Rattle.midi_meaning.specs.Controllers.{number_lsb_index, number_msb_index, pairing, role_of}
use Rattle.midi_meaning.specs.Compact.{since_reset, compact_piece, has_bank, is_selected, needed_voice}
use Rattle.midi_meaning.specs.LaneState.{LaneState, lane_state_over, registers_at}
use Rattle.midi_meaning.specs.Lanes.{lane_bytes}
use Rattle.midi_meaning.specs.Laws.{CarriedPacketsHaveAPiece}
use Rattle.midi_meaning.specs.Listing.{is_carried, is_carried_role, is_carried_voice}
use Rattle.midi_meaning.specs.Packets.{IsInRange}
use Rattle.midi_meaning.specs.Parts.{whole_of}
use Rattle.midi_meaning.specs.Plain.{control_messages, plain_piece, program_messages, set_messages}
use Rattle.midi_meaning.specs.StyleLaws.{KeptLanesAreThoseOfTheRecording}
use Rattle.midi_meaning.specs.Styles.{Style, plain_style, compact_style, styled_over}
use Rattle.down_translator.specs.KeptLanes.{piece_by}
use Rattle.down_translator.specs.Step.{lane_of}
use Rattle.down_translator.proofs.Spelling.{spelled_message_of}

-- ---- something is written exactly of a packet that is carried

-- at least a data byte is left of a voice message
left : (running : Option ℕ) (message : Voice1) (rest : List ℕ) → 0 < length (without_status running (spelled_voice message) ++ rest)
left running (voice1.NoteOff ch n v) rest =
    cond_both (is_running running (0x80 + ch)) (n ∷ v ∷ []) ((0x80 + ch) ∷ n ∷ v ∷ []) (λ l. 0 < length (l ++ rest)) (λ e. omega arith)
    (λ e. omega arith)
left running (voice1.NoteOn ch n v) rest =
    cond_both (is_running running (0x90 + ch)) (n ∷ v ∷ []) ((0x90 + ch) ∷ n ∷ v ∷ []) (λ l. 0 < length (l ++ rest)) (λ e. omega arith)
    (λ e. omega arith)
left running (voice1.PolyPressure ch n v) rest =
    cond_both (is_running running (0xa0 + ch)) (n ∷ v ∷ []) ((0xa0 + ch) ∷ n ∷ v ∷ []) (λ l. 0 < length (l ++ rest)) (λ e. omega arith)
    (λ e. omega arith)
left running (voice1.Control ch n v) rest =
    cond_both (is_running running (0xb0 + ch)) (n ∷ v ∷ []) ((0xb0 + ch) ∷ n ∷ v ∷ []) (λ l. 0 < length (l ++ rest)) (λ e. omega arith)
    (λ e. omega arith)
left running (voice1.Program ch v) rest =
    cond_both (is_running running (0xc0 + ch)) (v ∷ []) ((0xc0 + ch) ∷ v ∷ []) (λ l. 0 < length (l ++ rest)) (λ e. omega arith)
    (λ e. omega arith)
left running (voice1.Pressure ch v) rest =
    cond_both (is_running running (0xd0 + ch)) (v ∷ []) ((0xd0 + ch) ∷ v ∷ []) (λ l. 0 < length (l ++ rest)) (λ e. omega arith)
    (λ e. omega arith)
left running (voice1.Bend ch v) rest =
    cond_both (is_running running (0xe0 + ch)) ((v % 128) ∷ (v / 128) ∷ []) ((0xe0 + ch) ∷ (v % 128) ∷ (v / 128) ∷ [])
    (λ l. 0 < length (l ++ rest)) (λ e. omega arith) (λ e. omega arith)

-- some voice messages, or none
abbrev Begins : Option ℕ → Bool → List Message → Type 0
Begins running carried messages = IsTrue carried ↔ (0 < length (written_under running messages))

begins : (running : Option ℕ) (message : Voice1) (messages : List Message) → Begins running true (voice message ∷ messages)
begins running message messages =
    ((λ e. left running message (written_under (running_after (voice message) running) messages)), (λ h. refl))

none_begin : (running : Option ℕ) → Begins running false []
none_begin running = ((λ e. cc), (λ h. absurd (omega (arith, h))))

control_begins : (running : Option ℕ) (role : Role) (ch i v : ℕ) → Begins running (is_carried_role role) (control_messages role ch i v)
control_begins running channel_mode ch i v = begins running (voice1.Control ch i (down7 v)) []
control_begins running reset_all ch i v = begins running (voice1.Control ch i (down7 v)) []
control_begins running plain ch i v = begins running (voice1.Control ch i (down7 v)) []
control_begins running coarse ch i v =
    begins running (voice1.Control ch i (down14 v / 128)) (voice (voice1.Control ch (i + 32) (down14 v % 128)) ∷ [])
control_begins running _ ch i v = none_begin running

set_begins : (running : Option ℕ) (channel : ℕ) (param : Param) (value : ℕ) (null there : Bool) →
    Begins running (not null) (cond null [] (cond there (drop 2 (set_messages channel param value)) (set_messages channel param value)))
set_begins running channel param value true there = none_begin running
set_begins running channel param value false true =
    begins running (voice1.Control channel 6 (value / 128)) (voice (voice1.Control channel 38 (value % 128)) ∷ [])
set_begins running channel param value false false =
    begins running (voice1.Control channel (number_msb_index param.kind) param.bank)
    (voice (voice1.Control channel (number_lsb_index param.kind) param.index) ∷ voice (voice1.Control channel 6 (value / 128))
    ∷ voice (voice1.Control channel 38 (value % 128)) ∷ [])

program_begins : (running : Option ℕ) (channel program : ℕ) (bank : Bank) (there : Bool) →
    Begins running true (cond there (drop 2 (program_messages channel program (Some bank))) (program_messages channel program (Some bank)))
program_begins running channel program bank true = begins running (voice1.Program channel program) []
program_begins running channel program bank false =
    begins running (voice1.Control channel 0 bank.msb)
    (voice (voice1.Control channel 32 bank.lsb) ∷ voice (voice1.Program channel program) ∷ [])

-- the lane of a piece that is lent
lane_from : (group : ℕ) (carried : Bool) (bytes : List ℕ) → (IsTrue carried ↔ (0 < length bytes))
    → cond (length bytes == 0) 0 group ≡ lane_of (Some group) carried
lane_from group true [] h = absurd (omega (arith, h.0 refl))
lane_from group true (b ∷ bytes) h =
    cond_both (length (b ∷ bytes) == 0) 0 group (λ l. l ≡ group) (λ e. absurd (omega (arith, eqb-true (length (b ∷ bytes)) 0 e)))
    (λ e. refl)
lane_from group false [] h = refl
lane_from group false (b ∷ bytes) h = cc (h.1 (omega arith))

-- F0 is no running status
no_voice : (o : Option ℕ) → running_by o ≡ Some 0xf0 → ⊥
unfolding sort_of
no_voice None h = cc
no_voice (Some r) h = go (sort_of r) refl h
  where
    go : (t : Sort) → sort_of r ≡ t → running_under t r ≡ Some 0xf0 → ⊥
    go (voice_status l) e k = let f : sort_of 0xf0 ≡ voice_status l = ap sort_of (sym (same_Some r 0xf0 k)) ∙ e in cc f
    go _ e k = cc

exclusive_whole : (past bytes : List ℕ) → without_status (running past) (spelled (exclusive bytes)) ≡ spelled (exclusive bytes)
exclusive_whole past bytes = go (running past) (no_voice (last_status (without_real_time past)))
  where
    go : (r : Option ℕ) → (r ≡ Some 0xf0 → ⊥) → without_status r (0xf0 ∷ bytes ++ 0xf7 ∷ []) ≡ 0xf0 ∷ bytes ++ 0xf7 ∷ []
    go None h = refl
    go (Some s) h =
        cond_both (eqb s 0xf0) (bytes ++ 0xf7 ∷ []) (0xf0 ∷ bytes ++ 0xf7 ∷ []) (λ l. l ≡ 0xf0 ∷ bytes ++ 0xf7 ∷ [])
        (λ e. absurd (h (ap Some (eqb-true s 0xf0 e)))) (λ e. refl)

system_whole : StatusesThatRunCanBeLeftOut → (past : List ℕ) (message : System)
    → without_status (running past) (spelled (system_message message)) ≡ spelled (system_message message)
system_whole statuses past message =
    ap (without_status (running past)) (spelled_message_of message) ∙ statuses.system message past ∙ sym (spelled_message_of message)

module _ (paired : Bool) where
  voice_begins : (running : Option ℕ) (registers : ℕ → Registers) (message : Voice2) →
      Begins running (is_carried_voice paired message) (needed_voice paired registers message)
  voice_begins running registers (voice2.NoteOff ch n v t a) = begins running (voice1.NoteOff ch n (release_down v)) []
  voice_begins running registers (voice2.NoteOn ch n v t a) = begins running (voice1.NoteOn ch n (velocity_down v)) []
  voice_begins running registers (voice2.PolyPressure ch n v) = begins running (voice1.PolyPressure ch n (down7 v)) []
  voice_begins running registers (voice2.Control ch i v) = control_begins running (pairing paired (role_of i)) ch i v
  voice_begins running registers (voice2.Set ch param v) =
      set_begins running ch param (down14 v) (is_null param) (is_selected (registers ch) param)
  voice_begins running registers (voice2.Shift ch param v) = none_begin running
  voice_begins running registers (voice2.Program ch p None) = begins running (voice1.Program ch p) []
  voice_begins running registers (voice2.Program ch p (Some bank)) = program_begins running ch p bank (has_bank (registers ch) bank)
  voice_begins running registers (voice2.Pressure ch v) = begins running (voice1.Pressure ch (down7 v)) []
  voice_begins running registers (voice2.Bend ch v) = begins running (voice1.Bend ch (down14 v)) []
  voice_begins running registers (voice2.NoteController ch k n i v) = none_begin running
  voice_begins running registers (voice2.NoteBend ch n v) = none_begin running
  voice_begins running registers (voice2.NoteManagement ch n f) = none_begin running

  pub plain_is : (lane : LaneState) (whole : Option (List ℕ)) (p : Packet)
      → piece_by paired plain_style lane whole p ≡ plain_piece paired whole p
  plain_is lane whole (packet.Voice1 g m) = refl
  plain_is lane whole (packet.Voice2 g m) = refl
  plain_is lane whole (packet.Utility s v) = refl
  plain_is lane whole (packet.System g m) = refl
  plain_is lane whole (packet.Exclusive g f bytes) = refl
  plain_is lane whole (packet.Data8 g wd) = refl
  plain_is lane whole (packet.Flex g wd) = refl
  plain_is lane whole (packet.Stream f s l wd x y) = refl
  plain_is lane whole (packet.Reserved wd) = refl

  pub something : CarriedPacketsHaveAPiece paired → (style : Style) (lane : LaneState) (whole : Option (List ℕ)) (p : Packet) →
      IsTrue (is_carried paired whole p) ↔ (0 < length (piece_by paired style lane whole p))
  something pieces plain_style lane whole (packet.Voice1 g m) = pieces whole (packet.Voice1 g m)
  something pieces plain_style lane whole (packet.Voice2 g m) = pieces whole (packet.Voice2 g m)
  something pieces compact_style lane whole (packet.Voice1 g m) = begins lane.running m []
  something pieces compact_style lane whole (packet.Voice2 g m) = voice_begins lane.running (registers_at lane.channels) m
  something pieces style lane whole (packet.Utility s v) = pieces whole (packet.Utility s v)
  something pieces style lane whole (packet.System g m) = pieces whole (packet.System g m)
  something pieces style lane whole (packet.Exclusive g f bytes) = pieces whole (packet.Exclusive g f bytes)
  something pieces style lane whole (packet.Data8 g wd) = pieces whole (packet.Data8 g wd)
  something pieces style lane whole (packet.Flex g wd) = pieces whole (packet.Flex g wd)
  something pieces style lane whole (packet.Stream f s l wd x y) = pieces whole (packet.Stream f s l wd x y)
  something pieces style lane whole (packet.Reserved wd) = pieces whole (packet.Reserved wd)

  pub lent1 : CarriedPacketsHaveAPiece paired → (style : Style) (lane : LaneState) (group : ℕ) (m : Voice1) →
      cond (length (piece_by paired style lane None (packet.Voice1 group m)) == 0) 0 group
      ≡ lane_of (Some group) (is_carried paired None (packet.Voice1 group m))
  lent1 pieces style lane group m =
      lane_from group (is_carried paired None (packet.Voice1 group m)) (piece_by paired style lane None (packet.Voice1 group m))
      (something pieces style lane None (packet.Voice1 group m))

  pub lent2 : CarriedPacketsHaveAPiece paired → (style : Style) (lane : LaneState) (group : ℕ) (m : Voice2) →
      cond (length (piece_by paired style lane None (packet.Voice2 group m)) == 0) 0 group
      ≡ lane_of (Some group) (is_carried paired None (packet.Voice2 group m))
  lent2 pieces style lane group m =
      lane_from group (is_carried paired None (packet.Voice2 group m)) (piece_by paired style lane None (packet.Voice2 group m))
      (something pieces style lane None (packet.Voice2 group m))

  pub lent_system : CarriedPacketsHaveAPiece paired → (style : Style) (lane : LaneState) (group : ℕ) (m : System) →
      cond (length (piece_by paired style lane None (packet.System group m)) == 0) 0 group
      ≡ lane_of (Some group) (is_carried paired None (packet.System group m))
  lent_system pieces style lane group m =
      lane_from group (is_carried paired None (packet.System group m)) (piece_by paired style lane None (packet.System group m))
      (something pieces style lane None (packet.System group m))

  -- ---- the piece that looks back

  pub looks_back : StatusesThatRunCanBeLeftOut → KeptLanesAreThoseOfTheRecording paired → (past : List Packet) (p : Packet) (group : ℕ)
      → AllByRecursion IsInRange past → IsInRange p →
      piece_by paired compact_style (lane_state_over paired past group) (whole_of past p) p
      ≡ compact_piece paired (reverse (lane_bytes group (styled_over paired compact_style past))) (whole_of past p) p
  looks_back statuses kept past (packet.Voice1 g m) group a h = kept.piece past (packet.Voice1 g m) group a h
  looks_back statuses kept past (packet.Voice2 g m) group a h = kept.piece past (packet.Voice2 g m) group a h
  looks_back statuses kept past (packet.System g m) group a h =
      let before : List ℕ = since_reset (reverse (lane_bytes group (styled_over paired compact_style past))) in
      ap (λ l. l ++ []) (sym (system_whole statuses before m))
  looks_back statuses kept past (packet.Exclusive g f bytes) group a h = go (whole_of past (packet.Exclusive g f bytes))
    where
      go : (whole : Option (List ℕ))
          → plain_piece paired whole (packet.Exclusive g f bytes)
          ≡ compact_piece paired (reverse (lane_bytes group (styled_over paired compact_style past))) whole (packet.Exclusive g f bytes)
      go None = refl
      go (Some whole) =
          ap (λ l. l ++ []) (sym (exclusive_whole (since_reset (reverse (lane_bytes group (styled_over paired compact_style past)))) whole))
  looks_back statuses kept past (packet.Utility s v) group a h = refl
  looks_back statuses kept past (packet.Data8 g wd) group a h = refl
  looks_back statuses kept past (packet.Flex g wd) group a h = refl
  looks_back statuses kept past (packet.Stream f s l wd x y) group a h = refl
  looks_back statuses kept past (packet.Reserved wd) group a h = refl
