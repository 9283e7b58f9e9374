-- What is written of a packet and kept of its lane, by the status bytes that are written.
use Rattle.std.proofs.Common.{ℕ, ◌≡◌, ◌≢◌, ◌<◌, ◌∙◌, ap, sym, refl, arith, List, [], ◌∷◌}
use Rattle.std.proofs.Common.{◌++◌, length, Option, Some, None, Bool, true, false, cond}
use Rattle.std.proofs.lemmas.List.{append-nil, set-get_or}
use Rattle.std.proofs.lemmas.Option.{same_Some}
use Rattle.std.specs.Prelude.{drop, if◌then◌else◌, slice_index}
use Rattle.std.specs.List.{flat_map}
use Rattle.voice_messages.specs.declared.voice1.Voice1.{Voice1}
use Rattle.voice_messages.specs.declared.voice1.Voice1.TheVariants as voice1
use Rattle.voice_messages.specs.declared.voice1.System.{System}
use Rattle.voice_messages.specs.declared.voice1.System.TheVariants as system
use Rattle.voice_messages.specs.declared.voice2.Param.{Param}
use Rattle.voice_messages.specs.declared.voice2.Bank.{Bank}
use Rattle.voice_messages.specs.declared.voice2.Voice2.{Voice2}
use Rattle.voice_messages.specs.declared.voice2.Voice2.TheVariants as voice2
use Rattle.ump_grammar.specs.declared.packet.Packet.TheVariants as packet
use Rattle.bit_scaling.specs.Scaling.{down7, down14}
use Rattle.midi1_bytes.specs.Messages.{Message, system_message, voice, spelled}
use Rattle.midi1_bytes.specs.RunningStatus.{is_running, running_after, running_over, without_status, written_under}
use Rattle.midi_meaning.specs.Registers.{Registers, is_null, unset_registers, with_bank, with_selected}
use Rattle.midi_meaning.specs.Controllers.{Role, reset_all, channel_mode, coarse, fine, plain, role_of, pairing}
use Rattle.midi_meaning.specs.Roles.{registers_after}
use Rattle.midi_meaning.specs.Plain.{control_messages, pair_messages, program_messages, set_messages, voice_messages}
use Rattle.midi_meaning.specs.Compact.{has_bank, is_selected, needed_set, needed_voice}
use Rattle.midi_meaning.specs.Listing.{voice_kind}
use Rattle.midi_meaning.specs.LaneState.{LaneState, at_registers_of, channels_after1, channels_after2}
use Rattle.midi_meaning.specs.LaneState.{channels_after_control2, lane_state_after, new_lane, registers_at}
use Rattle.midi_meaning.specs.Styles.{Style, plain_style, compact_style}
use Rattle.down_translator.specs.declared.statuses.Statuses.{Statuses}
use Rattle.down_translator.specs.declared.statuses.Statuses.TheVariants.{All, Changes}
use Rattle.down_translator.specs.KeptLanes.{IsUnpaired, KeptLanes, after_system, is_pair, is_single, is_there, kept_by}
use Rattle.down_translator.specs.KeptLanes.{lane_at, lanes_after, piece_by, statuses_in, unless_there, with_lane}
use Rattle.down_translator.specs.Statuses.{statuses_after, statuses_over, written_all, written_in}

written_plain : (messages : List Message) → written_all All messages ≡ flat_map spelled messages
written_plain [] = refl
written_plain (message ∷ messages) = ap (λ bytes. spelled message ++ bytes) (written_plain messages)

written_compact : (messages : List Message) (running : Option ℕ) → written_all (Changes running) messages ≡ written_under running messages
written_compact [] running = refl
written_compact (message ∷ messages) running =
    ap (λ bytes. without_status running (spelled message) ++ bytes) (written_compact messages (running_after message running))

after_plain : (messages : List Message) → statuses_over messages All ≡ All
after_plain [] = refl
after_plain (message ∷ messages) = after_plain messages

after_compact : (messages : List Message) (running : Option ℕ)
    → statuses_over messages (Changes running) ≡ Changes (running_over messages running)
after_compact [] running = refl
after_compact (message ∷ messages) running = after_compact messages (running_after message running)

-- the messages that select leave the running status that the others leave
set_runs : (registers : Registers) (channel : ℕ) (param : Param) (value : ℕ) (running : Option ℕ) (null there : Bool) →
    running_over (if null then [] else if there then drop 2 (set_messages channel param value) else set_messages channel param value)
    running
    ≡ running_over (if null then [] else set_messages channel param value) running
set_runs registers channel param value running true there = refl
set_runs registers channel param value running false true = refl
set_runs registers channel param value running false false = refl

program_runs : (channel program : ℕ) (bank : Bank) (running : Option ℕ) (there : Bool) →
    running_over (if there then drop 2 (program_messages channel program (Some bank)) else program_messages channel program (Some bank))
    running
    ≡ running_over (program_messages channel program (Some bank)) running
program_runs channel program bank running true = refl
program_runs channel program bank running false = refl

-- a status byte is at the head of a message's bytes
without_head : (t : Bool) (status : ℕ) (bytes : List ℕ) → cond t bytes (status ∷ bytes) ≡ cond t [] (status ∷ []) ++ bytes
without_head true status bytes = refl
without_head false status bytes = refl

pub without_status_is : (running : Option ℕ) (bytes : List ℕ) → 0 < length bytes →
    without_status running bytes ≡ (if is_running running (slice_index bytes 0) then [] else slice_index bytes 0 ∷ []) ++ drop 1 bytes
without_status_is running [] some = absurd (omega (arith, some))
without_status_is running (status ∷ bytes) some = without_head (is_running running status) status bytes

unless_is : (there : Bool) (messages : List Message) → unless_there there messages ≡ cond there (drop 2 messages) messages
unless_is true messages = refl
unless_is false messages = refl

by_statuses : (lanes : KeptLanes) (group : ℕ) (message : Voice2) (some all : Statuses) → some ≡ all →
    kept_by group some (channels_after2 message) lanes ≡ kept_by group all (channels_after2 message) lanes
by_statuses lanes group message some all same = ap (λ statuses. kept_by group statuses (channels_after2 message) lanes) same

-- the same change of registers, after messages that are the same
by_change : (lanes : KeptLanes) (group : ℕ) (statuses : Statuses) (change other : List Registers → List Registers) →
    ((channels : List Registers) → change channels ≡ other channels)
    → kept_by group statuses change lanes ≡ kept_by group statuses other lanes
by_change lanes group All change other same = refl
by_change lanes group (Changes running) change other same =
    ap (λ channels. with_lane group (record { running = running; channels = channels }) lanes) (same (lane_at lanes.states group).channels)

abbrev voice_of : Message → Option Voice1
voice_of (voice message) = Some message
voice_of _ = None

abbrev first_of : List Message → Option Voice1
first_of [] = None
first_of (message ∷ messages) = voice_of message

same_single : (message single : Voice1) → voice message ∷ [] ≡ voice single ∷ [] → message ≡ single
same_single message single same = same_Some message single (ap first_of same)

-- a parameter that is set is no single message
set_not_single : (null : Bool) (channel : ℕ) (param : Param) (value : ℕ) (single : Voice1) →
    cond null [] (set_messages channel param value) ≡ voice single ∷ [] → ⊥
set_not_single true channel param value single same = omega (arith, ap length same)
set_not_single false channel param value single same = omega (arith, ap length same)

-- its change of registers is that of the one message
by_one : (message single : Voice1) → voice message ∷ [] ≡ voice single ∷ [] →
    (channels : List Registers) → channels_after1 single channels ≡ channels_after1 message channels
by_one message single same channels = ap (λ message. channels_after1 message channels) (sym (same_single message single same))

-- messages that aren't written as single ones, whatever their fields
abbrev pub is_several : Voice2 → Bool
is_several (voice2.Set channel param value) = true
is_several (voice2.Program channel program (Some bank)) = true
is_several _ = false

-- ---- control changes of MIDI 2.0

is_pair-true : (role : Role) → is_pair role ≡ true → role ≡ coarse
is_pair-true coarse is = refl
is_pair-true _ is = cc

-- without pairs nothing is a pair
unpaired_pair : (paired : Bool) (role : Role) → paired ≡ false → is_pair (pairing paired role) ≡ false
unpaired_pair true role is = absurd (cc is)
unpaired_pair false coarse is = refl
unpaired_pair false fine is = refl
unpaired_pair false _ is = refl

-- what is no control change of paired controllers is carried as without pairs
pub alone : (paired : Bool) (message : Voice2) → IsUnpaired paired message → voice_messages false message ≡ voice_messages paired message
alone paired (voice2.Control channel index value) is = ap (λ p. voice_messages p (voice2.Control channel index value)) (sym is)
alone paired message is = refl

-- and is listed as without pairs
pub unpaired_kind : (paired : Bool) (message : Voice2) → IsUnpaired paired message → voice_kind paired message ≡ voice_kind false message
unpaired_kind paired (voice2.Control channel index value) is = ap (λ p. voice_kind p (voice2.Control channel index value)) is
unpaired_kind paired message is = refl

-- a pair is no single message
control_one : (role : Role) (channel index value : ℕ) (single : Voice1) → control_messages role channel index value ≡ voice single ∷ [] →
    voice (voice1.Control channel index (down7 value)) ∷ [] ≡ voice single ∷ []
control_one channel_mode channel index value single same = same
control_one reset_all channel index value single same = same
control_one plain channel index value single same = same
control_one _ channel index value single same = absurd (omega (arith, ap length same))

control_changed : (paired : Bool) (role : Role) (channel index value : ℕ) (single : Voice1) (channels : List Registers) →
    control_messages (pairing paired role) channel index value ≡ voice single ∷ [] →
    at_registers_of channel (registers_after role (down7 value)) channels ≡ channels_after_control2 role channel channels
control_changed paired reset_all channel index value single channels same = refl
control_changed paired channel_mode channel index value single channels same = set-get_or channels channel unset_registers
control_changed paired coarse channel index value single channels same = set-get_or channels channel unset_registers
control_changed paired fine channel index value single channels same = set-get_or channels channel unset_registers
control_changed paired plain channel index value single channels same = set-get_or channels channel unset_registers
control_changed paired _ channel index value single channels same = absurd (omega (arith, ap length same))

-- of a control change that is neither single nor a pair nothing is written
pub single_control : (role : Role) (channel index value : ℕ) → is_single role ≡ true
    → control_messages role channel index value ≡ voice (voice1.Control channel index (down7 value)) ∷ []
single_control channel_mode channel index value is = refl
single_control reset_all channel index value is = refl
single_control plain channel index value is = refl
single_control _ channel index value is = absurd (cc is)

pub no_single_control : (role : Role) (channel index value : ℕ) → is_single role ≡ false
    → length (control_messages role channel index value) ≢ 1
no_single_control channel_mode channel index value is = absurd (cc is)
no_single_control reset_all channel index value is = absurd (cc is)
no_single_control plain channel index value is = absurd (cc is)
no_single_control _ channel index value is = λ same. omega (arith, same)

no_control : (role : Role) (channel index value : ℕ) → length (control_messages role channel index value) ≢ 1 → is_pair role ≡ false
    → control_messages role channel index value ≡ []
no_control channel_mode channel index value some is = absurd (some refl)
no_control reset_all channel index value some is = absurd (some refl)
no_control plain channel index value some is = absurd (some refl)
no_control coarse channel index value some is = absurd (cc is)
no_control _ channel index value some is = refl

unchanged_control : (paired : Bool) (role : Role) (channel index value : ℕ) (channels : List Registers)
    → length (control_messages (pairing paired role) channel index value) ≢ 1 → channels ≡ channels_after_control2 role channel channels
unchanged_control paired reset_all channel index value channels some = absurd (some refl)
unchanged_control paired _ channel index value channels some = refl

-- the messages of a MIDI 2.0 voice message
abbrev pub needed_in : Bool → Style → (ℕ → Registers) → Voice2 → List Message
needed_in paired plain_style registers message = voice_messages paired message
needed_in paired compact_style registers message = needed_voice paired registers message

-- ---- with paired controllers or without

module _ (paired : Bool) where
  needed_runs : (registers : ℕ → Registers) (message : Voice2) (running : Option ℕ) →
      running_over (needed_voice paired registers message) running ≡ running_over (voice_messages paired message) running
  needed_runs registers (voice2.Set channel param value) running =
      set_runs (registers channel) channel param (down14 value) running (is_null param) (is_selected (registers channel) param)
  needed_runs registers (voice2.Program channel program None) running = refl
  needed_runs registers (voice2.Program channel program (Some bank)) running =
      program_runs channel program bank running (has_bank (registers channel) bank)
  needed_runs registers message running = refl

  pub piece1 : (style : Style) (lane : LaneState) (group : ℕ) (message : Voice1) →
      written_in (statuses_in style lane) (voice message) ≡ piece_by paired style lane None (packet.Voice1 group message)
  piece1 plain_style lane group message = sym (append-nil (spelled (voice message)))
  piece1 compact_style lane group message = sym (append-nil (without_status lane.running (spelled (voice message))))

  piece2 : (style : Style) (lane : LaneState) (group : ℕ) (message : Voice2) →
      written_all (statuses_in style lane) (needed_in paired style (registers_at lane.channels) message)
      ≡ piece_by paired style lane None (packet.Voice2 group message)
  piece2 plain_style lane group message = written_plain (voice_messages paired message)
  piece2 compact_style lane group message = written_compact (needed_voice paired (registers_at lane.channels) message) lane.running

  set_needs : (style : Style) (registers : ℕ → Registers) (channel : ℕ) (param : Param) (value : ℕ) → is_null param ≡ false →
      unless_there (is_there style (is_selected (registers channel) param)) (set_messages channel param (down14 value))
      ≡ needed_in paired style registers (voice2.Set channel param value)
  set_needs plain_style registers channel param value there = sym (ap (λ t. cond t [] (set_messages channel param (down14 value))) there)
  set_needs compact_style registers channel param value there =
      unless_is (is_selected (registers channel) param) (set_messages channel param (down14 value))
      ∙ sym (ap (λ t. cond t [] (needed_set (registers channel) channel param (down14 value))) there)

  program_needs : (style : Style) (registers : ℕ → Registers) (channel program : ℕ) (bank : Bank) →
      unless_there (is_there style (has_bank (registers channel) bank)) (program_messages channel program (Some bank))
      ≡ needed_in paired style registers (voice2.Program channel program (Some bank))
  program_needs plain_style registers channel program bank = refl
  program_needs compact_style registers channel program bank =
      unless_is (has_bank (registers channel) bank) (program_messages channel program (Some bank))

  pub piece_set : (style : Style) (lane : LaneState) (group channel : ℕ) (param : Param) (value : ℕ) → is_null param ≡ false →
      written_all (statuses_in style lane)
      (unless_there (is_there style (is_selected (registers_at lane.channels channel) param)) (set_messages channel param (down14 value)))
      ≡ piece_by paired style lane None (packet.Voice2 group (voice2.Set channel param value))
  piece_set style lane group channel param value there =
      ap (written_all (statuses_in style lane)) (set_needs style (registers_at lane.channels) channel param value there)
      ∙ piece2 style lane group (voice2.Set channel param value)

  pub piece_program : (style : Style) (lane : LaneState) (group channel program : ℕ) (bank : Bank) →
      written_all (statuses_in style lane)
      (unless_there (is_there style (has_bank (registers_at lane.channels channel) bank)) (program_messages channel program (Some bank)))
      ≡ piece_by paired style lane None (packet.Voice2 group (voice2.Program channel program (Some bank)))
  piece_program style lane group channel program bank =
      ap (written_all (statuses_in style lane)) (program_needs style (registers_at lane.channels) channel program bank)
      ∙ piece2 style lane group (voice2.Program channel program (Some bank))

  kept1_in : (style : Style) (states : List LaneState) (group : ℕ) (message : Voice1) →
      kept_by group (statuses_after (voice message) (statuses_in style (lane_at states group))) (channels_after1 message)
      (record { style = style; paired = paired; states = states })
      ≡ lanes_after (Some group) None (packet.Voice1 group message) (record { style = style; paired = paired; states = states })
  kept1_in plain_style states group message = refl
  kept1_in compact_style states group message = refl

  kept2_in : (style : Style) (states : List LaneState) (group : ℕ) (message : Voice2) →
      kept_by group (statuses_over (needed_in paired style (registers_at (lane_at states group).channels) message)
      (statuses_in style (lane_at states group)))
      (channels_after2 message) (record { style = style; paired = paired; states = states })
      ≡ lanes_after (Some group) None (packet.Voice2 group message) (record { style = style; paired = paired; states = states })
  kept2_in plain_style states group message =
      by_statuses (record { style = plain_style; paired = paired; states = states }) group message _ _
      (after_plain (voice_messages paired message))
  kept2_in compact_style states group message =
      let lane : LaneState = lane_at states group in
      let messages : List Message = needed_voice paired (registers_at lane.channels) message in
      by_statuses (record { style = compact_style; paired = paired; states = states }) group message _ _
      (after_compact messages lane.running ∙ ap Changes (needed_runs (registers_at lane.channels) message lane.running))

  system-kept : (lane : LaneState) (group : ℕ) (message : System)
      → after_system message lane ≡ lane_state_after paired lane None (packet.System group message)
  system-kept lane group (system.Quarter value) = refl
  system-kept lane group (system.Position value) = refl
  system-kept lane group (system.Song value) = refl
  system-kept lane group system.Tune = refl
  system-kept lane group system.Clock = refl
  system-kept lane group system.Start = refl
  system-kept lane group system.Continue = refl
  system-kept lane group system.Stop = refl
  system-kept lane group system.Sensing = refl
  system-kept lane group system.Reset = refl

  pub piece_system : (style : Style) (lane : LaneState) (group : ℕ) (message : System) →
      flat_map spelled (system_message message ∷ []) ≡ piece_by paired style lane None (packet.System group message)
  piece_system style lane group message = refl

  -- what is needed of such a message is all of it
  needed_single : (registers : ℕ → Registers) (message : Voice2) (single : Voice1) → voice_messages paired message ≡ voice single ∷ [] →
      needed_voice paired registers message ≡ voice single ∷ []
  needed_single registers (voice2.Set channel param value) single same =
      absurd (set_not_single (is_null param) channel param (down14 value) single same)
  needed_single registers (voice2.Program channel program None) single same = same
  needed_single registers (voice2.Program channel program (Some bank)) single same = absurd (omega (arith, ap length same))
  needed_single registers message single same = same

  pub single_piece : (style : Style) (lane : LaneState) (group : ℕ) (message : Voice2) (single : Voice1)
      → voice_messages paired message ≡ voice single ∷ [] →
      piece_by paired style lane None (packet.Voice1 group single) ≡ piece_by paired style lane None (packet.Voice2 group message)
  single_piece plain_style lane group message single same = ap (flat_map spelled) (sym same)
  single_piece compact_style lane group message single same =
      ap (written_under lane.running) (sym (needed_single (registers_at lane.channels) message single same))

  -- the same by what it is without pairs
  pub unpaired_piece : (style : Style) (lane : LaneState) (group : ℕ) (message : Voice2) (single : Voice1) → IsUnpaired paired message
      → voice_messages false message ≡ voice single ∷ [] →
      piece_by paired style lane None (packet.Voice1 group single) ≡ piece_by paired style lane None (packet.Voice2 group message)
  unpaired_piece style lane group message single is same =
      single_piece style lane group message single (sym (alone paired message is) ∙ same)

  changed_single : (message : Voice2) (single : Voice1) → voice_messages paired message ≡ voice single ∷ [] →
      (channels : List Registers) → channels_after1 single channels ≡ channels_after2 message channels
  changed_single (voice2.NoteOff channel note velocity attribute_type attribute) single same channels = by_one _ single same channels
  changed_single (voice2.NoteOn channel note velocity attribute_type attribute) single same channels = by_one _ single same channels
  changed_single (voice2.PolyPressure channel note value) single same channels = by_one _ single same channels
  changed_single (voice2.Control channel index value) single same channels =
      by_one (voice1.Control channel index (down7 value)) single
      (control_one (pairing paired (role_of index)) channel index value single same) channels
      ∙ control_changed paired (role_of index) channel index value single channels same
  changed_single (voice2.Set channel param value) single same channels =
      absurd (set_not_single (is_null param) channel param (down14 value) single same)
  changed_single (voice2.Program channel program None) single same channels = by_one _ single same channels
  changed_single (voice2.Program channel program (Some bank)) single same channels = absurd (omega (arith, ap length same))
  changed_single (voice2.Pressure channel value) single same channels = by_one _ single same channels
  changed_single (voice2.Bend channel value) single same channels = by_one _ single same channels
  changed_single message single same channels = absurd (omega (arith, ap length same))

  unsent_piece : (style : Style) (lane : LaneState) (group : ℕ) (message : Voice2) → voice_messages paired message ≡ [] →
      needed_voice paired (registers_at lane.channels) message ≡ [] → [] ≡ piece_by paired style lane None (packet.Voice2 group message)
  unsent_piece plain_style lane group message none needed = sym (ap (flat_map spelled) none)
  unsent_piece compact_style lane group message none needed = sym (ap (written_under lane.running) needed)

  same_lane : (style : Style) (states : List LaneState) (group : ℕ) →
      record { style = style; paired = paired; states = states }
      ≡ with_lane group (lane_at states group) (record { style = style; paired = paired; states = states })
  same_lane plain_style states group = refl
  same_lane compact_style states group =
      ap (λ states. record { style = compact_style; paired = paired; states = states }) (sym (set-get_or states group new_lane))

  -- the null parameter
  pub null_piece : (style : Style) (lane : LaneState) (group channel : ℕ) (param : Param) (value : ℕ) → is_null param ≡ true →
      [] ≡ piece_by paired style lane None (packet.Voice2 group (voice2.Set channel param value))
  null_piece style lane group channel param value null =
      unsent_piece style lane group (voice2.Set channel param value)
      (ap (λ t. cond t [] (set_messages channel param (down14 value))) null)
      (ap (λ t. cond t [] (needed_set (registers_at lane.channels channel) channel param (down14 value))) null)

  unsent : (message : Voice2) → IsUnpaired paired message → length (voice_messages paired message) ≢ 1 → is_several message ≡ false
      → voice_messages paired message ≡ []
  unsent (voice2.NoteOff channel note velocity attribute_type attribute) is some few = absurd (some refl)
  unsent (voice2.NoteOn channel note velocity attribute_type attribute) is some few = absurd (some refl)
  unsent (voice2.PolyPressure channel note value) is some few = absurd (some refl)
  unsent (voice2.Control channel index value) is some few =
      no_control (pairing paired (role_of index)) channel index value some (unpaired_pair paired (role_of index) is)
  unsent (voice2.Set channel param value) is some few = absurd (cc few)
  unsent (voice2.Program channel program None) is some few = absurd (some refl)
  unsent (voice2.Program channel program (Some bank)) is some few = absurd (cc few)
  unsent (voice2.Pressure channel value) is some few = absurd (some refl)
  unsent (voice2.Bend channel value) is some few = absurd (some refl)
  unsent message is some few = refl

  needed_unsent : (registers : ℕ → Registers) (message : Voice2) → is_several message ≡ false
      → needed_voice paired registers message ≡ voice_messages paired message
  needed_unsent registers (voice2.Set channel param value) few = absurd (cc few)
  needed_unsent registers (voice2.Program channel program None) few = refl
  needed_unsent registers (voice2.Program channel program (Some bank)) few = absurd (cc few)
  needed_unsent registers message few = refl

  changed_unsent : (message : Voice2) → length (voice_messages paired message) ≢ 1 → is_several message ≡ false →
      (channels : List Registers) → channels ≡ channels_after2 message channels
  changed_unsent (voice2.Control channel index value) some few channels =
      unchanged_control paired (role_of index) channel index value channels some
  changed_unsent (voice2.Set channel param value) some few channels = absurd (cc few)
  changed_unsent (voice2.Program channel program None) some few channels = refl
  changed_unsent (voice2.Program channel program (Some bank)) some few channels = absurd (cc few)
  changed_unsent message some few channels = refl

  pub no_piece : (style : Style) (lane : LaneState) (group : ℕ) (message : Voice2) → IsUnpaired paired message
      → length (voice_messages paired message) ≢ 1 → is_several message ≡ false →
      [] ≡ piece_by paired style lane None (packet.Voice2 group message)
  no_piece style lane group message is some few =
      unsent_piece style lane group message (unsent message is some few)
      (needed_unsent (registers_at lane.channels) message few ∙ unsent message is some few)

  -- both halves of a pair
  pair_needs : (style : Style) (registers : ℕ → Registers) (channel index value : ℕ) → is_pair (pairing paired (role_of index)) ≡ true →
      pair_messages channel index (down14 value) ≡ needed_in paired style registers (voice2.Control channel index value)
  pair_needs plain_style registers channel index value is =
      sym (ap (λ role. control_messages role channel index value) (is_pair-true (pairing paired (role_of index)) is))
  pair_needs compact_style registers channel index value is =
      sym (ap (λ role. control_messages role channel index value) (is_pair-true (pairing paired (role_of index)) is))

  pub piece_pair : (style : Style) (lane : LaneState) (group channel index value : ℕ) → is_pair (pairing paired (role_of index)) ≡ true →
      written_all (statuses_in style lane) (pair_messages channel index (down14 value))
      ≡ piece_by paired style lane None (packet.Voice2 group (voice2.Control channel index value))
  piece_pair style lane group channel index value is =
      ap (written_all (statuses_in style lane)) (pair_needs style (registers_at lane.channels) channel index value is)
      ∙ piece2 style lane group (voice2.Control channel index value)

  pub control_piece : (style : Style) (lane : LaneState) (group channel index value : ℕ)
      → length (voice_messages paired (voice2.Control channel index value)) ≢ 1 → is_pair (pairing paired (role_of index)) ≡ false →
      [] ≡ piece_by paired style lane None (packet.Voice2 group (voice2.Control channel index value))
  control_piece style lane group channel index value some is =
      let none : control_messages (pairing paired (role_of index)) channel index value ≡ [] =
      no_control (pairing paired (role_of index)) channel index value some is in
      unsent_piece style lane group (voice2.Control channel index value) none none

pub kept1 : (lanes : KeptLanes) (group : ℕ) (message : Voice1) →
    kept_by group (statuses_after (voice message) (statuses_in lanes.style (lane_at lanes.states group))) (channels_after1 message) lanes
    ≡ lanes_after (Some group) None (packet.Voice1 group message) lanes
kept1 lanes group message = kept1_in lanes.paired lanes.style lanes.states group message

kept2 : (lanes : KeptLanes) (group : ℕ) (message : Voice2) →
    kept_by group (statuses_over (needed_in lanes.paired lanes.style (registers_at (lane_at lanes.states group).channels) message)
    (statuses_in lanes.style (lane_at lanes.states group)))
    (channels_after2 message) lanes
    ≡ lanes_after (Some group) None (packet.Voice2 group message) lanes
kept2 lanes group message = kept2_in lanes.paired lanes.style lanes.states group message

pub kept_set : (lanes : KeptLanes) (group channel : ℕ) (param : Param) (value : ℕ) → is_null param ≡ false →
    kept_by group (statuses_over
    (unless_there (is_there lanes.style (is_selected (registers_at (lane_at lanes.states group).channels channel) param))
    (set_messages channel param (down14 value)))
    (statuses_in lanes.style (lane_at lanes.states group)))
    (at_registers_of channel (with_selected param)) lanes
    ≡ lanes_after (Some group) None (packet.Voice2 group (voice2.Set channel param value)) lanes
kept_set lanes group channel param value there =
    let lane : LaneState = lane_at lanes.states group in
    by_change lanes group _ (at_registers_of channel (with_selected param)) (channels_after2 (voice2.Set channel param value))
    (λ channels. sym (ap (λ t. cond t channels (at_registers_of channel (with_selected param) channels)) there))
    ∙ by_statuses lanes group (voice2.Set channel param value) _ _
    (ap (λ messages. statuses_over messages (statuses_in lanes.style lane))
    (set_needs lanes.paired lanes.style (registers_at lane.channels) channel param value there))
    ∙ kept2 lanes group (voice2.Set channel param value)

pub kept_program : (lanes : KeptLanes) (group channel program : ℕ) (bank : Bank) →
    kept_by group (statuses_over
    (unless_there (is_there lanes.style (has_bank (registers_at (lane_at lanes.states group).channels channel) bank))
    (program_messages channel program (Some bank)))
    (statuses_in lanes.style (lane_at lanes.states group)))
    (at_registers_of channel (with_bank bank)) lanes
    ≡ lanes_after (Some group) None (packet.Voice2 group (voice2.Program channel program (Some bank))) lanes
kept_program lanes group channel program bank =
    let lane : LaneState = lane_at lanes.states group in
    by_statuses lanes group (voice2.Program channel program (Some bank)) _ _
    (ap (λ messages. statuses_over messages (statuses_in lanes.style lane))
    (program_needs lanes.paired lanes.style (registers_at lane.channels) channel program bank))
    ∙ kept2 lanes group (voice2.Program channel program (Some bank))

pub kept_system : (lanes : KeptLanes) (group : ℕ) (message : System) →
    with_lane group (after_system message (lane_at lanes.states group)) lanes
    ≡ lanes_after (Some group) None (packet.System group message) lanes
kept_system lanes group message =
    ap (λ lane. with_lane group lane lanes) (system-kept lanes.paired (lane_at lanes.states group) group message)

pub kept_single : (lanes : KeptLanes) (group : ℕ) (message : Voice2) (single : Voice1)
    → voice_messages lanes.paired message ≡ voice single ∷ [] →
    lanes_after (Some group) None (packet.Voice1 group single) lanes ≡ lanes_after (Some group) None (packet.Voice2 group message) lanes
kept_single lanes group message single same =
    let lane : LaneState = lane_at lanes.states group in
    ap (λ messages. with_lane group
    (record { running = running_over messages lane.running; channels = channels_after1 single lane.channels }) lanes)
    (sym same)
    ∙ ap (λ channels. with_lane group
    (record { running = running_over (voice_messages lanes.paired message) lane.running; channels = channels }) lanes)
    (changed_single lanes.paired message single same lane.channels)

pub kept_unpaired : (lanes : KeptLanes) (group : ℕ) (message : Voice2) (single : Voice1) → IsUnpaired lanes.paired message
    → voice_messages false message ≡ voice single ∷ [] →
    lanes_after (Some group) None (packet.Voice1 group single) lanes ≡ lanes_after (Some group) None (packet.Voice2 group message) lanes
kept_unpaired lanes group message single is same = kept_single lanes group message single (sym (alone lanes.paired message is) ∙ same)

unsent_kept : (lanes : KeptLanes) (group : ℕ) (message : Voice2) → voice_messages lanes.paired message ≡ [] →
    ((channels : List Registers) → channels ≡ channels_after2 message channels)
    → lanes ≡ lanes_after (Some group) None (packet.Voice2 group message) lanes
unsent_kept lanes group message none same =
    let lane : LaneState = lane_at lanes.states group in
    same_lane lanes.paired lanes.style lanes.states group
    ∙ ap (λ channels. with_lane group (record { running = lane.running; channels = channels }) lanes) (same lane.channels)
    ∙ ap (λ messages. with_lane group
    (record { running = running_over messages lane.running; channels = channels_after2 message lane.channels }) lanes)
    (sym none)

pub null_kept : (lanes : KeptLanes) (group channel : ℕ) (param : Param) (value : ℕ) → is_null param ≡ true →
    lanes ≡ lanes_after (Some group) None (packet.Voice2 group (voice2.Set channel param value)) lanes
null_kept lanes group channel param value null =
    unsent_kept lanes group (voice2.Set channel param value)
    (ap (λ t. cond t [] (set_messages channel param (down14 value))) null)
    (λ channels. sym (ap (λ t. cond t channels (at_registers_of channel (with_selected param) channels)) null))

pub kept_none : (lanes : KeptLanes) (group : ℕ) (message : Voice2) → IsUnpaired lanes.paired message
    → length (voice_messages lanes.paired message) ≢ 1 → is_several message ≡ false →
    lanes ≡ lanes_after (Some group) None (packet.Voice2 group message) lanes
kept_none lanes group message is some few =
    unsent_kept lanes group message (unsent lanes.paired message is some few) (changed_unsent lanes.paired message some few)

pub kept_pair : (lanes : KeptLanes) (group channel index value : ℕ) → is_pair (pairing lanes.paired (role_of index)) ≡ true →
    kept_by group (statuses_over (pair_messages channel index (down14 value)) (statuses_in lanes.style (lane_at lanes.states group)))
    (λ channels. channels) lanes
    ≡ lanes_after (Some group) None (packet.Voice2 group (voice2.Control channel index value)) lanes
kept_pair lanes group channel index value is =
    let lane : LaneState = lane_at lanes.states group in
    by_change lanes group _ (λ channels. channels) (channels_after2 (voice2.Control channel index value))
    (λ channels. unchanged_control lanes.paired (role_of index) channel index value channels
    (pair_length lanes.paired index channel value is))
    ∙ by_statuses lanes group (voice2.Control channel index value) _ _
    (ap (λ messages. statuses_over messages (statuses_in lanes.style lane))
    (pair_needs lanes.paired lanes.style (registers_at lane.channels) channel index value is))
    ∙ kept2 lanes group (voice2.Control channel index value)
  where
    pair_length : (paired : Bool) (index channel value : ℕ) → is_pair (pairing paired (role_of index)) ≡ true
        → length (control_messages (pairing paired (role_of index)) channel index value) ≢ 1
    pair_length paired index channel value is = λ same. omega (
      arith,
      ap (λ role. length (control_messages role channel index value)) (sym (is_pair-true (pairing paired (role_of index)) is)) ∙ same,
    )

pub kept_control : (lanes : KeptLanes) (group channel index value : ℕ)
    → length (voice_messages lanes.paired (voice2.Control channel index value)) ≢ 1
    → is_pair (pairing lanes.paired (role_of index)) ≡ false →
    lanes ≡ lanes_after (Some group) None (packet.Voice2 group (voice2.Control channel index value)) lanes
kept_control lanes group channel index value some is =
    unsent_kept lanes group (voice2.Control channel index value)
    (no_control (pairing lanes.paired (role_of index)) channel index value some is)
    (λ channels. unchanged_control lanes.paired (role_of index) channel index value channels some)
