-- A channel voice message of MIDI 1.0, except for a control change that isn't direct, is carried by its own bytes and leaves the registers.
use Rattle.std.proofs.Common.{List, ◌≡◌, ◌<◌, ◌+◌, ◌*◌, ◌/◌, ◌%◌, ℕ, Bool, true, false, [], ◌∷◌, ◌||◌, ◌&&◌, leb, nat_le, refl}
use Rattle.std.proofs.Common.{sym, ap, ◌∙◌, arith, Option, Some, None, slice_index, slice_index_or, slice_set}
use Rattle.std.specs.Prelude.{◌==◌, not, if◌then◌else◌}
use Rattle.std.proofs.lemmas.Bool.{and_parts, eqb-true, leb-false, true≢false}
use Rattle.std.proofs.lemmas.List.{append-nil, set-get_or}
use Rattle.std.specs.Option.{option_to_list}
use Rattle.voice_messages.specs.declared.voice1.Voice1.{Voice1}
use Rattle.voice_messages.specs.declared.voice1.Voice1.TheVariants as voice1
use Rattle.voice_messages.specs.declared.voice2.Voice2.TheVariants as voice2
use Rattle.voice_messages.specs.Ranges.{IsVoice1}
use Rattle.midi1_bytes.specs.Messages.{spelled_voice}
use Rattle.midi1_bytes.specs.RunningStatus.{without_status}
use Rattle.ump_grammar.specs.declared.packet.Bad.TheVariants.{HighBit}
use Rattle.ump_grammar.specs.declared.packet.Packet.{Packet}
use Rattle.ump_grammar.specs.declared.packet.Packet.TheVariants as packet
use Rattle.ump_grammar.specs.Ranges.{IsPacket}
use Rattle.ump_grammar.specs.Reason.{reason}
use Rattle.ump_grammar.specs.Spelling.{both, HasRow, SpellsVoice1, has_row}
use Rattle.ump_grammar.specs.WordFields.{byte, channel_of, group_of, opcode_of, type_of}
use Rattle.midi_meaning.specs.Controllers.{Role, is_direct, pairing, role_of}
use Rattle.midi_meaning.specs.Controllers as roles
use Rattle.midi_meaning.specs.Roles.{registers_after}
use Rattle.midi_meaning.specs.Registers.{Registers, unset_registers}
use Rattle.midi_meaning.specs.LaneState.{LaneState, channels_after1, lane_state_after}
use Rattle.midi_meaning.specs.Refusal.{bad_role, bad_voice1}
use Rattle.midi_meaning.specs.Styles.{plain_style, compact_style}
use Rattle.encoded_packets.specs.DirectMessages.{has_direct_kind}
use Rattle.down_translator.specs.declared.carried.Carried.{Carried}
use Rattle.down_translator.specs.declared.lowered.LoweredMessage.{LoweredMessage}
use Rattle.down_translator.specs.declared.shortened.ShortenedMessage.{ShortenedMessage}
use Rattle.down_translator.specs.declared.statuses.Statuses.TheVariants.{Changes}
use Rattle.down_translator.specs.Held.{DownState, down_after, lanes_after_packet, unless_refused}
use Rattle.down_translator.specs.KeptLanes.{is_plain, kept_by, lane_at, lanes_after, piece_by, states_by, with_lane}
use Rattle.down_translator.specs.Midi1.{CarriesMidi1, IsMidi1Message, begins_midi1, control_index, is_midi1, midi1_goes_direct}
use Rattle.down_translator.specs.Lowered.{IsAnsweredAs, IsDirectStep, IsShortenedStep, after_status, attribute_line, goes_direct}
use Rattle.down_translator.specs.Lowered.{goes_shortened, lowered_bytes, packet_goes_direct, shortened_bytes}
use Rattle.down_translator.specs.Step.{IsStep}
use Rattle.down_translator.proofs.LoweredLaws.{direct_single, none_else, plain_is, single_accepted}
use Rattle.down_translator.proofs.PieceLaws.{piece1}
use Rattle.down_translator.proofs.ShortenedLaws.{both_shortened, compact_is}

-- ---- what the words tell

-- the places of a message
pub record HasPlaces (m : LoweredMessage) (words : List ℕ) : Type 0 where
  pub lane : m.lane ≡ group_of words
  pub status : m.status ≡ byte words 2
  pub first : m.first ≡ byte words 3 % 128
  pub second : m.second ≡ (if opcode_of words == 0xC || opcode_of words == 0xD then None else Some (byte words 4 % 128))
  pub attribute : m.has_attribute ≡ false

module _ (m : LoweredMessage) (words : List ℕ) (places : HasPlaces m words) where
  status-is : (opcode channel : ℕ) → opcode_of words ≡ opcode → channel ≡ channel_of words → m.status ≡ 16 * opcode + channel
  status-is opcode channel o ch =
      let status : m.status ≡ slice_index words 0 / 65536 % 256 = places.status in
      omega arith

  low : (value place : ℕ) → value ≡ place → value < 128 → place % 128 ≡ value
  low value place e small = omega (arith, e, small)

  bytes-are : (status first : ℕ) (second : Option ℕ) → m.status ≡ status → m.first ≡ first → m.second ≡ second
      → lowered_bytes m ≡ status ∷ first ∷ option_to_list second
  bytes-are status first second a b c =
      ap (λ x. x ∷ m.first ∷ option_to_list m.second) a
      ∙ ap (λ x. status ∷ x ∷ option_to_list m.second) b
      ∙ ap (λ x. status ∷ first ∷ option_to_list x) c

  two-bytes : (opcode channel first second : ℕ) → opcode_of words ≡ opcode → (opcode == 0xC || opcode == 0xD) ≡ false
      → channel ≡ channel_of words → first ≡ byte words 3 → second ≡ byte words 4 → first < 128 → second < 128
      → lowered_bytes m ≡ (16 * opcode + channel) ∷ first ∷ second ∷ []
  two-bytes opcode channel first second o two ch f s few_first few_second =
      let other : (opcode_of words == 0xC || opcode_of words == 0xD) ≡ false = ap (λ n. n == 0xC || n == 0xD) o ∙ two in
      bytes-are (16 * opcode + channel) first (Some second) (status-is opcode channel o ch)
      (places.first ∙ low first (byte words 3) f few_first)
      (places.second ∙ ap (λ one. if one then None else Some (byte words 4 % 128)) other
      ∙ ap Some (low second (byte words 4) s few_second))

  one-byte : (opcode channel first : ℕ) → opcode_of words ≡ opcode → (opcode == 0xC || opcode == 0xD) ≡ true
      → channel ≡ channel_of words → first ≡ byte words 3 → first < 128 → lowered_bytes m ≡ (16 * opcode + channel) ∷ first ∷ []
  one-byte opcode channel first o one ch f few_first =
      let here : (opcode_of words == 0xC || opcode_of words == 0xD) ≡ true = ap (λ n. n == 0xC || n == 0xD) o ∙ one in
      bytes-are (16 * opcode + channel) first None (status-is opcode channel o ch)
      (places.first ∙ low first (byte words 3) f few_first)
      (places.second ∙ ap (λ one. if one then None else Some (byte words 4 % 128)) here)

  -- no data byte of a bend is high
  bend-low : type_of words ≡ 2 → opcode_of words ≡ 0xE → reason words ≡ None → (byte words 3 < 128) × (byte words 4 < 128)
  bend-low type o fine = go (leb 128 (byte words 3)) (leb 128 (byte words 4)) refl refl (rw (type, o) at fine)
    where
      go : (high3 high4 : Bool) → leb 128 (byte words 3) ≡ high3 → leb 128 (byte words 4) ≡ high4
          → (if (high3 || (high4 || false)) then Some HighBit else None) ≡ None → (byte words 3 < 128) × (byte words 4 < 128)
      go true high4 a b none = absurd (let both : Some HighBit ≡ None = none in cc)
      go false true a b none = absurd (let both : Some HighBit ≡ None = none in cc)
      go false false a b none = (leb-false 128 (byte words 3) a, leb-false 128 (byte words 4) b)

  bend-bytes : (channel value : ℕ) → opcode_of words ≡ 0xE → channel ≡ channel_of words → value ≡ both (byte words 3) (byte words 4)
      → (byte words 3 < 128) × (byte words 4 < 128) → lowered_bytes m ≡ (16 * 0xE + channel) ∷ (value % 128) ∷ (value / 128) ∷ []
  bend-bytes channel value o ch v few =
      two-bytes 0xE channel (value % 128) (value / 128) o refl ch
      (halves (byte words 3) (byte words 4) v few.0 few.1).0 (halves (byte words 3) (byte words 4) v few.0 few.1).1
      (omega arith) (omega (arith, v, few.0, few.1))
    where
      halves : (low high : ℕ) → value ≡ both low high → low < 128 → high < 128 → (value % 128 ≡ low) × (value / 128 ≡ high)
      halves low high e small large = (omega (arith, e, small, large), omega (arith, e, small, large))

  bytes-of : (message : Voice1) → type_of words ≡ 2 → reason words ≡ None → SpellsVoice1 message words → IsVoice1 message
      → lowered_bytes m ≡ spelled_voice message
  bytes-of (voice1.NoteOff channel note velocity) type fine s fits =
      two-bytes 0x8 channel note velocity s.0 refl s.1 s.2 s.3 fits.1 fits.2
  bytes-of (voice1.NoteOn channel note velocity) type fine s fits =
      two-bytes 0x9 channel note velocity s.0 refl s.1 s.2 s.3 fits.1 fits.2
  bytes-of (voice1.PolyPressure channel note value) type fine s fits =
      two-bytes 0xA channel note value s.0 refl s.1 s.2 s.3 fits.1 fits.2
  bytes-of (voice1.Control channel index value) type fine s fits =
      two-bytes 0xB channel index value s.0 refl s.1 s.2 s.3 fits.1 fits.2
  bytes-of (voice1.Program channel program) type fine s fits = one-byte 0xC channel program s.0 refl s.1 s.2 fits.1
  bytes-of (voice1.Pressure channel value) type fine s fits = one-byte 0xD channel value s.0 refl s.1 s.2 fits.1
  bytes-of (voice1.Bend channel value) type fine s fits = bend-bytes channel value s.0 s.1 s.2 (bend-low type s.0 fine)

abbrev AnsweredBy : List ℕ → LoweredMessage → Packet → Type 0
AnsweredBy words m p = HasRow p words → IsPacket p → CarriesMidi1 p m

-- words with the type and the opcode of a message are that message
pub carries : (p : Packet) (words : List ℕ) (m : LoweredMessage) → HasPlaces m words → begins_midi1 words ≡ true → reason words ≡ None
    → HasRow p words → IsPacket p → CarriesMidi1 p m
carries p words m places begins fine = go p
  where
    parts : ((type_of words == 2 && nat_le 0x8 (opcode_of words)) ≡ true) × (nat_le (opcode_of words) 0xE ≡ true)
    parts = and_parts (type_of words == 2 && nat_le 0x8 (opcode_of words)) (nat_le (opcode_of words) 0xE) begins

    first_parts : ((type_of words == 2) ≡ true) × (nat_le 0x8 (opcode_of words) ≡ true)
    first_parts = and_parts (type_of words == 2) (nat_le 0x8 (opcode_of words)) parts.0

    type : type_of words ≡ 2
    type = eqb-true (type_of words) 2 first_parts.0

    other : (n : ℕ) → type_of words ≡ n → (n ≡ 2 → ⊥) → ⊥
    other n is not_two = not_two (sym is ∙ type)

    row : has_row words ≡ true
    row = rw (type, first_parts.1, parts.1) refl

    go : (p : Packet) → AnsweredBy words m p
    go (packet.Voice1 group message) r fits = record {
      lane = places.lane ∙ sym r.1;
      group = fits.0;
      bytes = bytes-of m words places message type fine r.2 fits.1;
      fits = fits.1;
      attribute = places.attribute;
    }
    go (packet.Utility status value) r fits = absurd (other 0 r.0 (λ e. omega (arith, e)))
    go (packet.System group message) r fits = absurd (other 1 r.0 (λ e. omega (arith, e)))
    go (packet.Exclusive group form bytes) r fits = absurd (other 3 r.0 (λ e. omega (arith, e)))
    go (packet.Voice2 group message) r fits = absurd (other 4 r.0 (λ e. omega (arith, e)))
    go (packet.Data8 group kept) r fits = absurd (other 5 r.0 (λ e. omega (arith, e)))
    go (packet.Flex group kept) r fits = absurd (other 13 r.0 (λ e. omega (arith, e)))
    go (packet.Stream format status low second third fourth) r fits = absurd (other 15 r.0 (λ e. omega (arith, e)))
    go (packet.Reserved kept) r fits = absurd (true≢false (sym row ∙ r.0))

-- other words are none
pub none_begins : (p : Packet) (words : List ℕ) → begins_midi1 words ≡ false → HasRow p words → is_midi1 p ≡ false
none_begins (packet.Voice1 group message) words none r = absurd (true≢false (sym (begins message r.2) ∙ none))
  where
    begins : (message : Voice1) → SpellsVoice1 message words → begins_midi1 words ≡ true
    begins (voice1.NoteOff channel note velocity) s = rw (r.0, s.0) refl
    begins (voice1.NoteOn channel note velocity) s = rw (r.0, s.0) refl
    begins (voice1.PolyPressure channel note value) s = rw (r.0, s.0) refl
    begins (voice1.Control channel index value) s = rw (r.0, s.0) refl
    begins (voice1.Program channel program) s = rw (r.0, s.0) refl
    begins (voice1.Pressure channel value) s = rw (r.0, s.0) refl
    begins (voice1.Bend channel value) s = rw (r.0, s.0) refl
none_begins _ words none r = refl

-- ---- which go direct

same_index : (paired : Bool) (group : ℕ) (message : Voice1) (m : LoweredMessage) → IsMidi1Message group message m
    → is_direct (pairing paired (role_of (control_index m))) ≡ midi1_goes_direct paired message
unfolding role_of
same_index paired group message m is = go message is.bytes is.fits
  where
    opcode_is : (opcode channel : ℕ) (rest : List ℕ) → lowered_bytes m ≡ (16 * opcode + channel) ∷ rest → channel < 16
        → m.status / 16 ≡ opcode
    opcode_is opcode channel rest bytes small =
        let status : m.status ≡ 16 * opcode + channel = ap (λ b. slice_index b 0) bytes in
        omega arith

    by : (opcode channel : ℕ) (rest : List ℕ) → (opcode == 0xB) ≡ false → lowered_bytes m ≡ (16 * opcode + channel) ∷ rest → channel < 16
        → is_direct (pairing paired (role_of (control_index m))) ≡ true
    by opcode channel rest other bytes small =
        let same : control_index m ≡ 64 =
        ap (λ n. if n == 0xB then m.first else 64) (opcode_is opcode channel rest bytes small)
        ∙ ap (λ is. if is then m.first else 64) other in
        ap (λ index. is_direct (pairing paired (role_of index))) same ∙ refl

    go : (message : Voice1) → lowered_bytes m ≡ spelled_voice message → IsVoice1 message
        → is_direct (pairing paired (role_of (control_index m))) ≡ midi1_goes_direct paired message
    go (voice1.NoteOff channel note velocity) bytes fits = by 0x8 channel (note ∷ velocity ∷ []) refl bytes fits.0
    go (voice1.NoteOn channel note velocity) bytes fits = by 0x9 channel (note ∷ velocity ∷ []) refl bytes fits.0
    go (voice1.PolyPressure channel note value) bytes fits = by 0xA channel (note ∷ value ∷ []) refl bytes fits.0
    go (voice1.Control channel index value) bytes fits =
        let same : control_index m ≡ index =
        ap (λ n. if n == 0xB then m.first else 64) (opcode_is 0xB channel (index ∷ value ∷ []) bytes fits.0)
        ∙ ap (λ b. slice_index b 1) bytes in
        ap (λ index. is_direct (pairing paired (role_of index))) same
    go (voice1.Program channel program) bytes fits = by 0xC channel (program ∷ []) refl bytes fits.0
    go (voice1.Pressure channel value) bytes fits = by 0xD channel (value ∷ []) refl bytes fits.0
    go (voice1.Bend channel value) bytes fits = by 0xE channel ((value % 128) ∷ (value / 128) ∷ []) refl bytes fits.0

same_packet : (paired : Bool) (p : Packet) (m : LoweredMessage) → CarriesMidi1 p m
    → is_direct (pairing paired (role_of (control_index m))) ≡ packet_goes_direct paired p
same_packet paired (packet.Voice1 group message) m is = same_index paired group message m is
same_packet paired (packet.Utility status value) m is = absurd is
same_packet paired (packet.System group message) m is = absurd is
same_packet paired (packet.Exclusive group form bytes) m is = absurd is
same_packet paired (packet.Voice2 group message) m is = absurd is
same_packet paired (packet.Data8 group kept) m is = absurd is
same_packet paired (packet.Flex group kept) m is = absurd is
same_packet paired (packet.Stream format status low second third fourth) m is = absurd is
same_packet paired (packet.Reserved kept) m is = absurd is

pub same_lowered : (state : DownState) (p : Packet) (m : LoweredMessage) → CarriesMidi1 p m
    → (is_plain state.lanes.style && is_direct (pairing state.lanes.paired (role_of (control_index m)))) ≡ goes_direct state p
same_lowered state p m is = ap (λ direct. is_plain state.lanes.style && direct) (same_packet state.lanes.paired p m is)

pub same_short : (state : DownState) (p : Packet) (m : LoweredMessage) → CarriesMidi1 p m
    → (not (is_plain state.lanes.style) && is_direct (pairing state.lanes.paired (role_of (control_index m)))) ≡ goes_shortened state p
same_short state p m is = ap (λ direct. not (is_plain state.lanes.style) && direct) (same_packet state.lanes.paired p m is)

no_packet : (paired : Bool) (p : Packet) → has_direct_kind p ≡ false → is_midi1 p ≡ false → packet_goes_direct paired p ≡ false
no_packet paired (packet.Voice1 group message) none other = cc
no_packet paired (packet.Voice2 group (voice2.Control channel index value)) none other = cc
no_packet paired (packet.Voice2 group message) none other = none
no_packet paired p none other = none

pub not_lowered : (state : DownState) (p : Packet) → has_direct_kind p ≡ false → is_midi1 p ≡ false → goes_direct state p ≡ false
not_lowered state p none other =
    none_else (is_plain state.lanes.style) (packet_goes_direct state.lanes.paired p) (no_packet state.lanes.paired p none other)

pub not_short : (state : DownState) (p : Packet) → has_direct_kind p ≡ false → is_midi1 p ≡ false → goes_shortened state p ≡ false
not_short state p none other =
    none_else (not (is_plain state.lanes.style)) (packet_goes_direct state.lanes.paired p) (no_packet state.lanes.paired p none other)

-- ---- the step

accepted_role : (paired : Bool) (index : ℕ) → is_direct (pairing paired (role_of index)) ≡ true → bad_role (role_of index) ≡ None
accepted_role paired index direct =
    single_accepted paired (role_of index) (direct_single (pairing paired (role_of index)) direct)

accepted : (paired : Bool) (message : Voice1) → midi1_goes_direct paired message ≡ true → bad_voice1 message ≡ None
accepted paired (voice1.Control channel index value) direct = accepted_role paired index direct
accepted paired _ direct = refl

kept_registers : (paired : Bool) (role : Role) (value : ℕ) (registers : Registers) → is_direct (pairing paired role) ≡ true
    → registers_after role value registers ≡ registers
kept_registers paired roles.channel_mode value registers direct = refl
kept_registers paired roles.coarse value registers direct = refl
kept_registers paired roles.fine value registers direct = refl
kept_registers paired roles.plain value registers direct = refl
kept_registers paired roles.data_msb value registers direct = refl
kept_registers paired roles.data_lsb value registers direct = refl
kept_registers paired roles.data_increment value registers direct = refl
kept_registers paired roles.data_decrement value registers direct = refl
kept_registers paired _ value registers direct = cc

kept_channels : (paired : Bool) (message : Voice1) (channels : List Registers) → midi1_goes_direct paired message ≡ true
    → channels_after1 message channels ≡ channels
kept_channels paired (voice1.Control channel index value) channels direct =
    ap (slice_set channels channel)
    (kept_registers paired (role_of index) value (slice_index_or channels channel unset_registers) direct)
    ∙ set-get_or channels channel unset_registers
kept_channels paired _ channels direct = refl

module _ (state : DownState) (group : ℕ) (message : Voice1) (m : LoweredMessage) (is : IsMidi1Message group message m) where
  abbrev p : Packet
  p = packet.Voice1 group message

  abbrev lane : LaneState
  lane = lane_at state.lanes.states group

  plain_step : (offset : ℕ) (carried : Carried) → state.lanes.style ≡ plain_style → midi1_goes_direct state.lanes.paired message ≡ true
      → IsAnsweredAs offset m.lane (lowered_bytes m) m.has_attribute carried → IsStep state offset p carried
  plain_step offset carried plain direct answered =
      record {
        accepted = accepted state.lanes.paired message direct;
        piece =
            answered.piece ∙ is.bytes ∙ sym (append-nil (spelled_voice message))
            ∙ sym (ap (λ style. piece_by state.lanes.paired style lane None p) plain);
        lane = answered.lane ∙ is.lane;
        line = answered.line ∙ ap (λ left_out. attribute_line offset m.lane left_out) is.attribute;
      }

  plain_after : (offset : ℕ) → state.lanes.style ≡ plain_style → midi1_goes_direct state.lanes.paired message ≡ true
      → down_after offset p state ≡ state
  plain_after offset plain direct =
      let kept : LaneState = lane_state_after state.lanes.paired lane None p in
      let after : lanes_after (unless_refused (bad_voice1 message) (Some group)) None p state.lanes ≡ state.lanes =
      ap (λ bad. lanes_after (unless_refused bad (Some group)) None p state.lanes) (accepted state.lanes.paired message direct)
      ∙ ap (λ style.
      record { style = state.lanes.style; paired = state.lanes.paired; states = states_by style group kept state.lanes.states })
      plain in
      ap (λ lanes. record { exclusives = state.exclusives; lanes = lanes }) after

  short_step : (offset : ℕ) (s : ShortenedMessage) (carried : Carried) → state.lanes.style ≡ compact_style
      → midi1_goes_direct state.lanes.paired message ≡ true
      → s.lane ≡ m.lane → s.has_attribute ≡ m.has_attribute
      → shortened_bytes s ≡ without_status (lane_at state.lanes.states m.lane).running (lowered_bytes m)
      → IsAnsweredAs offset s.lane (shortened_bytes s) s.has_attribute carried → IsStep state offset p carried
  short_step offset s carried compact direct lane_is attribute_is bytes_are answered =
      record {
        accepted = accepted state.lanes.paired message direct;
        piece =
            answered.piece ∙ bytes_are
            ∙ ap (λ group. without_status (lane_at state.lanes.states group).running (lowered_bytes m)) is.lane
            ∙ ap (without_status lane.running) is.bytes
            ∙ piece1 state.lanes.paired compact_style lane group message
            ∙ sym (ap (λ style. piece_by state.lanes.paired style lane None p) compact);
        lane = answered.lane ∙ lane_is ∙ is.lane;
        line = answered.line ∙ ap (λ left_out. attribute_line offset s.lane left_out) (attribute_is ∙ is.attribute);
      }

  short_lanes : state.lanes.style ≡ compact_style → midi1_goes_direct state.lanes.paired message ≡ true
      → kept_by m.lane (Changes (Some m.status)) (λ channels. channels) state.lanes ≡ lanes_after_packet p state
  short_lanes compact direct =
      ap (λ group. kept_by group (Changes (Some m.status)) (λ channels. channels) state.lanes) is.lane
      ∙ ap (λ status. with_lane group (record { running = Some status; channels = lane.channels }) state.lanes)
      (ap (λ bytes. slice_index bytes 0) is.bytes)
      ∙ ap (λ channels. with_lane group (record { running = Some (slice_index (spelled_voice message) 0); channels = channels }) state.lanes)
      (sym (kept_channels state.lanes.paired message lane.channels direct))
      ∙ lane_after
      ∙ sym (ap (λ bad. lanes_after (unless_refused bad (Some group)) None p state.lanes) (accepted state.lanes.paired message direct))
    where
      lane_after : with_lane group
          (record { running = Some (slice_index (spelled_voice message) 0); channels = channels_after1 message lane.channels })
          state.lanes
          ≡ lanes_after (Some group) None p state.lanes
      lane_after = refl

both_true : (whole direct : Bool) → (whole && direct) ≡ true → (whole ≡ true) × (direct ≡ true)
both_true true direct e = (refl, e)
both_true false direct e = cc

pub midi1_step : (state : DownState) (p : Packet) (m : LoweredMessage) → CarriesMidi1 p m → goes_direct state p ≡ true
    → IsDirectStep state p m
midi1_step state (packet.Voice1 group message) m is whole =
    let told = both_true (is_plain state.lanes.style) (midi1_goes_direct state.lanes.paired message) whole in
    let plain : state.lanes.style ≡ plain_style = plain_is state.lanes.style told.0 in
    record {
      whole = whole;
      lane = omega (arith, is.lane, is.group);
      step = λ offset carried answered. plain_step state group message m is offset carried plain told.1 answered;
      after = λ offset. plain_after state group message m is offset plain told.1;
    }
midi1_step state (packet.Utility status value) m is whole = absurd is
midi1_step state (packet.System group message) m is whole = absurd is
midi1_step state (packet.Exclusive group form bytes) m is whole = absurd is
midi1_step state (packet.Voice2 group message) m is whole = absurd is
midi1_step state (packet.Data8 group kept) m is whole = absurd is
midi1_step state (packet.Flex group kept) m is whole = absurd is
midi1_step state (packet.Stream format status low second third fourth) m is whole = absurd is
midi1_step state (packet.Reserved kept) m is whole = absurd is

pub midi1_short : (state : DownState) (p : Packet) (m : LoweredMessage) (s : ShortenedMessage) → CarriesMidi1 p m
    → goes_shortened state p ≡ true → s.lane ≡ m.lane
    → shortened_bytes s ≡ without_status (lane_at state.lanes.states m.lane).running (lowered_bytes m)
    → s.has_attribute ≡ m.has_attribute → IsShortenedStep state p s (after_status m.lane m.status state)
midi1_short state (packet.Voice1 group message) m s is whole lane_is bytes_are attribute_is =
    let told = both_shortened (is_plain state.lanes.style) (midi1_goes_direct state.lanes.paired message) whole in
    let compact : state.lanes.style ≡ compact_style = compact_is state.lanes.style told.0 in
    record {
      whole = whole;
      lane = omega (arith, lane_is, is.lane, is.group);
      step = λ offset carried answered.
          short_step state group message m is offset s carried compact told.1 lane_is attribute_is bytes_are answered;
      after = λ offset.
          ap (λ lanes. record { exclusives = state.exclusives; lanes = lanes }) (sym (short_lanes state group message m is compact told.1));
    }
midi1_short state (packet.Utility status value) m s is whole lane_is bytes_are attribute_is = absurd is
midi1_short state (packet.System group message) m s is whole lane_is bytes_are attribute_is = absurd is
midi1_short state (packet.Exclusive group form bytes) m s is whole lane_is bytes_are attribute_is = absurd is
midi1_short state (packet.Voice2 group message) m s is whole lane_is bytes_are attribute_is = absurd is
midi1_short state (packet.Data8 group kept) m s is whole lane_is bytes_are attribute_is = absurd is
midi1_short state (packet.Flex group kept) m s is whole lane_is bytes_are attribute_is = absurd is
midi1_short state (packet.Stream format status low second third fourth) m s is whole lane_is bytes_are attribute_is = absurd is
midi1_short state (packet.Reserved kept) m s is whole lane_is bytes_are attribute_is = absurd is
