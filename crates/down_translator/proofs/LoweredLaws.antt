-- A direct message, except for a control change that isn't direct, is carried by one MIDI 1.0 message, and in plain style that is
-- its whole step.
use Rattle.std.proofs.Common.{List, ◌≡◌, ◌+◌, ◌*◌, ◌/◌, ◌%◌, ◌^◌, ℕ, Bool, true, false, [], ◌∷◌, refl}
use Rattle.std.proofs.Common.{sym, ap, ◌∙◌, subst, arith, Option, Some, None, ◌≤◌, ◌<◌, length, take, min}
use Rattle.std.specs.Prelude.{◌==◌, ◌&&◌, not, if◌then◌else◌}
use Rattle.std.specs.List.{flat_map}
use Rattle.std.proofs.lemmas.List.{append-nil, length-take}
use Rattle.std.proofs.lemmas.List.Elements.{All-take}
use Rattle.sysex_groups.specs.Exclusives.{IsData}
use Rattle.std.specs.Option.{option_map, option_to_list}
use Rattle.bit_scaling.specs.Scaling.{down7, down14, release_down}
use Rattle.encoded_packets.specs.declared.direct_message.DirectMessage.{DirectMessage}
use Rattle.encoded_packets.specs.DirectMessages.{IsDirectMessage, kind_by, message_by, direct_voice, one_of_six}
use Rattle.voice_messages.specs.declared.voice1.Voice1.{Voice1}
use Rattle.voice_messages.specs.declared.voice1.Voice1.TheVariants as voice1
use Rattle.voice_messages.specs.declared.voice2.Voice2.{Voice2}
use Rattle.midi1_bytes.specs.Messages.{spelled, spelled_voice, voice}
use Rattle.ump_grammar.specs.declared.packet.Packet.{Packet}
use Rattle.ump_grammar.specs.declared.packet.Packet.TheVariants as packet
use Rattle.midi_meaning.specs.declared.listed.Listed.{Listed}
use Rattle.midi_meaning.specs.declared.listed.Kind.{Kind}
use Rattle.midi_meaning.specs.declared.listed.Kind.TheVariants as kinds
use Rattle.midi_meaning.specs.Controllers.{Role, channel_mode, data_decrement, data_increment}
use Rattle.midi_meaning.specs.Controllers.{is_direct, plain, reset_all, pairing, role_of}
use Rattle.midi_meaning.specs.Registers.{Registers}
use Rattle.midi_meaning.specs.LaneState.{LaneState, channels_after2, channels_after_control2, lane_state_after}
use Rattle.midi_meaning.specs.Listing.{control_kind, is_carried_role, is_carried_voice, line_offset, voice_kind}
use Rattle.midi_meaning.specs.Plain.{control_messages, voice_messages}
use Rattle.midi_meaning.specs.Refusal.{bad_role, bad_voice2}
use Rattle.midi_meaning.specs.Styles.{Style, plain_style, compact_style}
use Rattle.down_translator.specs.declared.carried.Carried.{Carried}
use Rattle.down_translator.specs.Carried.{lane_in, line_in}
use Rattle.down_translator.specs.declared.lowered.LoweredMessage.{LoweredMessage}
use Rattle.down_translator.specs.Held.{DownState, down_after, paired_of, unless_refused}
use Rattle.down_translator.specs.KeptLanes.{is_plain, is_single, lane_at, lanes_after, states_by, voice_piece}
use Rattle.down_translator.specs.Lowered.{IsDirectStep, attribute_line, lowered_bytes, first_by, has_attribute}
use Rattle.down_translator.specs.Lowered.{goes_by, is_note, message_goes_direct, packet_goes_direct, goes_direct, second_by, voice_by, voice_of}
use Rattle.down_translator.specs.Step.{IsStep, lane_of}

-- the upper seven bits of a value, of the upper sixteen and of the upper fourteen
same_release : (value : ℕ) → down7 value ≡ release_down (value / 2 ^ 16)
unfolding down7 release_down
same_release value = omega arith

same_bend : (value : ℕ) → down7 value ≡ down14 value / 128
unfolding down7 down14
same_bend value = omega arith

module _ (m : DirectMessage) where
  abbrev IsSpelled : ℕ → Type 0
  IsSpelled o =
      m.status / 16 ≡ o
      → m.status ∷ first_by (kind_by o) m ∷ option_to_list (second_by (kind_by o) m) ≡ spelled_voice (voice_by (kind_by o) m)

  status-is : (o : ℕ) → m.status / 16 ≡ o → m.status ≡ o * 16 + m.status % 16
  status-is o e = omega arith

  pub spelled_lowered : IsDirectMessage m
      → m.status ∷ first_by (kind_by (m.status / 16)) m ∷ option_to_list (second_by (kind_by (m.status / 16)) m)
      ≡ spelled_voice (voice_of m)
  spelled_lowered is =
      one_of_six IsSpelled
      (λ e. let status = status-is 0x8 e in let last = same_release m.value in cc)
      (λ e. let status = status-is 0x9 e in cc)
      (λ e. let status = status-is 0xA e in cc)
      (λ e. let status = status-is 0xB e in cc)
      (λ e. let status = status-is 0xD e in cc)
      (λ e. let status = status-is 0xE e in let last = same_bend m.value in cc)
      (m.status / 16) is.opcode refl

-- ---- a control change that is carried by one message

pub single_accepted : (paired : Bool) (role : Role) → is_single (pairing paired role) ≡ true → bad_role role ≡ None
single_accepted paired data_increment e = cc
single_accepted paired data_decrement e = cc
single_accepted paired _ e = refl

single_messages : (role : Role) (channel index value : ℕ) → is_single role ≡ true
    → control_messages role channel index value ≡ voice (voice1.Control channel index (down7 value)) ∷ []
single_messages channel_mode channel index value e = refl
single_messages reset_all channel index value e = refl
single_messages plain channel index value e = refl
single_messages _ channel index value e = cc

single_carried : (role : Role) → is_single role ≡ true → is_carried_role role ≡ true
single_carried channel_mode e = refl
single_carried reset_all e = refl
single_carried plain e = refl
single_carried _ e = cc

single_kind : (role : Role) → is_single role ≡ true → control_kind role ≡ None
single_kind channel_mode e = refl
single_kind reset_all e = refl
single_kind plain e = refl
single_kind _ e = cc

pub direct_single : (role : Role) → is_direct role ≡ true → is_single role ≡ true
direct_single channel_mode e = refl
direct_single plain e = refl
direct_single _ e = cc

-- it leaves the registers as they are
direct_kept : (paired : Bool) (role : Role) (channel : ℕ) (channels : List Registers) → is_direct (pairing paired role) ≡ true
    → channels ≡ channels_after_control2 role channel channels
direct_kept paired reset_all channel channels e = cc
direct_kept paired _ channel channels e = refl

-- ---- the step of a packet that is carried by one message

abbrev pub line_by : ℕ → ℕ → Option Kind → Option Listed
line_by offset group kind = option_map (λ kind. record { offset = line_offset kind None offset; group = Some group; kind = kind }) kind

attribute_by : (offset group : ℕ) (none : Bool)
    → attribute_line offset group (not none) ≡ line_by offset group (if none then None else Some kinds.NoteAttribute)
attribute_by offset group true = refl
attribute_by offset group false = refl

-- what tells of a message that one message carries
pub record IsSingle (paired : Bool) (offset group : ℕ) (message : Voice2) (single : Voice1) (left_out : Bool) : Type 0 where
  pub accepted : bad_voice2 message ≡ None
  pub messages : voice_messages paired message ≡ voice single ∷ []
  pub carried : is_carried_voice paired message ≡ true
  pub line : attribute_line offset group left_out ≡ line_by offset group (voice_kind paired message)
  pub kept : (channels : List Registers) → channels ≡ channels_after2 message channels

module _ (state : DownState) (is_plain_style : state.lanes.style ≡ plain_style) (offset group : ℕ) (message : Voice2) where
  abbrev p : Packet
  p = packet.Voice2 group message

  single_step : (single : Voice1) (left_out : Bool) (carried : Carried) → IsSingle (paired_of state) offset group message single left_out
      → carried.piece.now ≡ spelled_voice single → lane_in carried ≡ group → line_in carried ≡ attribute_line offset group left_out
      → IsStep state offset p carried
  single_step single left_out carried is piece lane line =
      record {
        accepted = is.accepted;
        piece =
            piece ∙ sym (append-nil (spelled_voice single)) ∙ sym (ap (flat_map spelled) is.messages)
            ∙ sym (ap (λ style. voice_piece (paired_of state) style (lane_at state.lanes.states group) p) is_plain_style);
        lane = lane ∙ sym (ap (λ told. lane_of (Some group) told) is.carried);
        line = line ∙ is.line;
      }

  after_plain : bad_voice2 message ≡ None → down_after offset p state ≡ state
  after_plain accepted =
      let kept : LaneState = lane_state_after (paired_of state) (lane_at state.lanes.states group) None p in
      let behind : lanes_after (unless_refused (bad_voice2 message) (Some group)) None p state.lanes ≡ state.lanes =
      ap (λ bad. lanes_after (unless_refused bad (Some group)) None p state.lanes) accepted
      ∙ ap (λ style.
      record { style = state.lanes.style; paired = state.lanes.paired; states = states_by style group kept state.lanes.states })
      is_plain_style in
      ap (λ lanes. record { exclusives = state.exclusives; lanes = lanes }) behind

-- ---- by the opcode

direct_control : (paired : Bool) (m : DirectMessage) (o : ℕ) → goes_by (kind_by o) paired m ≡ true → o ≡ 0xB
    → is_direct (pairing paired (role_of m.index)) ≡ true
direct_control paired m o h e = ap (λ n. goes_by (kind_by n) paired m) (sym e) ∙ h

module _ (paired : Bool) (m : DirectMessage) (offset : ℕ) (direct : message_goes_direct paired m ≡ true) where
  abbrev left_out_by : ℕ → Bool
  left_out_by o = is_note (kind_by o) && not (m.attribute_type == 0)

  abbrev IsSingleBy : ℕ → Type 0
  IsSingleBy o = m.status / 16 ≡ o → IsSingle paired offset m.group (message_by o m) (voice_by (kind_by o) m) (left_out_by o)

  single-8 : IsSingleBy 0x8
  single-8 e = record {
    accepted = refl;
    messages = refl;
    carried = refl;
    line = attribute_by offset m.group (m.attribute_type == 0);
    kept = λ channels. refl;
  }

  single-9 : IsSingleBy 0x9
  single-9 e = record {
    accepted = refl;
    messages = refl;
    carried = refl;
    line = attribute_by offset m.group (m.attribute_type == 0);
    kept = λ channels. refl;
  }

  single-A : IsSingleBy 0xA
  single-A e = record { accepted = refl; messages = refl; carried = refl; line = refl; kept = λ channels. refl }

  single-B : IsSingleBy 0xB
  single-B e =
      let role : Role = pairing paired (role_of m.index) in
      let direct_role : is_direct role ≡ true = direct_control paired m (m.status / 16) direct e in
      let single : is_single role ≡ true = direct_single role direct_role in
      record {
        accepted = single_accepted paired (role_of m.index) single;
        messages = single_messages role (m.status % 16) m.index m.value single;
        carried = single_carried role single;
        line = sym (ap (λ kind. line_by offset m.group kind) (single_kind role single));
        kept = λ channels. direct_kept paired (role_of m.index) (m.status % 16) channels direct_role;
      }

  single-D : IsSingleBy 0xD
  single-D e = record { accepted = refl; messages = refl; carried = refl; line = refl; kept = λ channels. refl }

  single-E : IsSingleBy 0xE
  single-E e = record { accepted = refl; messages = refl; carried = refl; line = refl; kept = λ channels. refl }

  pub is_single_of : IsDirectMessage m → IsSingle paired offset m.group (direct_voice m) (voice_of m) (has_attribute m)
  is_single_of is = one_of_six IsSingleBy single-8 single-9 single-A single-B single-D single-E (m.status / 16) is.opcode refl

-- such a message is a packet that one message carries, and no others are
pub direct_packet : (paired : Bool) (m : DirectMessage) → IsDirectMessage m
    → packet_goes_direct paired (packet.Voice2 m.group (direct_voice m)) ≡ message_goes_direct paired m
direct_packet paired m is =
    let Same : ℕ → Type 0 =
    λ o. packet_goes_direct paired (packet.Voice2 m.group (message_by o m))
    ≡ goes_by (kind_by o) paired m in
    one_of_six Same refl refl refl refl refl refl (m.status / 16) is.opcode

pub none_else : (whole direct : Bool) → direct ≡ false → (whole && direct) ≡ false
none_else true direct e = e
none_else false direct e = refl

pub same_direct : (state : DownState) (p : Packet) (m : DirectMessage) → IsDirectMessage m → p ≡ packet.Voice2 m.group (direct_voice m) →
    goes_direct state p ≡ (is_plain state.lanes.style && message_goes_direct state.lanes.paired m)
same_direct state p m is same =
    ap (goes_direct state) same ∙ ap (λ direct. is_plain state.lanes.style && direct) (direct_packet state.lanes.paired m is)

both : (whole direct : Bool) → (whole && direct) ≡ true → (whole ≡ true) × (direct ≡ true)
both true direct e = (refl, e)
both false direct e = cc

pub plain_is : (style : Style) → is_plain style ≡ true → style ≡ plain_style
plain_is plain_style e = refl
plain_is compact_style e = cc

pub direct_step : (state : DownState) (p : Packet) (m : DirectMessage) (l : LoweredMessage) → IsDirectMessage m
    → p ≡ packet.Voice2 m.group (direct_voice m)
    → (is_plain state.lanes.style && message_goes_direct state.lanes.paired m) ≡ true
    → l.lane ≡ m.group → lowered_bytes l ≡ spelled_voice (voice_of m) → l.has_attribute ≡ has_attribute m → IsDirectStep state p l
direct_step state p m l is same whole lane bytes attribute =
    let Whole : Packet → Type 0 = λ q. IsDirectStep state q l in
    let told = both (is_plain state.lanes.style) (message_goes_direct state.lanes.paired m) whole in
    let is_plain_style : state.lanes.style ≡ plain_style = plain_is state.lanes.style told.0 in
    subst Whole (sym same) (record {
      whole = same_direct state (packet.Voice2 m.group (direct_voice m)) m is refl ∙ whole;
      lane = omega (arith, lane, is.group);
      step = λ offset carried told_as.
          single_step state is_plain_style offset m.group (direct_voice m) (voice_of m) (has_attribute m) carried
          (is_single_of state.lanes.paired m offset told.1 is)
          (told_as.piece ∙ bytes) (told_as.lane ∙ lane)
          (told_as.line
          ∙ ap (λ group. attribute_line offset group l.has_attribute) lane
          ∙ ap (λ left_out. attribute_line offset m.group left_out) attribute);
      after =
          λ offset. after_plain state is_plain_style offset m.group (direct_voice m)
          (is_single_of state.lanes.paired m offset told.1 is).accepted;
    })

-- ---- the bytes that a part counts

pub few_of : (count : ℕ) (places : List ℕ) → count ≤ 6 → length (take count places) ≤ 6
few_of count places few =
    let same : length (take count places) ≡ min count (length places) = length-take count places in
    omega (arith, few, same)

pub data_of : (count : ℕ) (places : List ℕ) → IsData places → IsData (take count places)
data_of count places each = All-take (λ byte. byte < 128) count places each
