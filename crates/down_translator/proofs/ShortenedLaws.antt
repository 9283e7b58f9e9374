-- In compact style the bytes of one message, without a status byte that is the running status, are the step of a packet that leaves the
-- registers as they are.
use Rattle.std.proofs.Common.{◌≡◌, ◌∙◌, ◌∷◌, ap, sym, refl, arith, ℕ, Bool, true, false, Option, Some, None}
use Rattle.std.specs.Prelude.{◌&&◌, not, slice_index}
use Rattle.std.specs.Option.{option_to_list}
use Rattle.encoded_packets.specs.declared.direct_message.DirectMessage.{DirectMessage}
use Rattle.encoded_packets.specs.DirectMessages.{IsDirectMessage, direct_voice}
use Rattle.midi1_bytes.specs.Messages.{spelled_voice}
use Rattle.midi1_bytes.specs.RunningStatus.{is_running, running_over, without_status}
use Rattle.ump_grammar.specs.declared.packet.Packet.{Packet}
use Rattle.ump_grammar.specs.declared.packet.Packet.TheVariants as packet
use Rattle.midi_meaning.specs.LaneState.{LaneState}
use Rattle.midi_meaning.specs.Plain.{voice_messages}
use Rattle.midi_meaning.specs.Styles.{Style, plain_style, compact_style}
use Rattle.down_translator.specs.declared.carried.Carried.{Carried}
use Rattle.down_translator.specs.Carried.{lane_in, line_in}
use Rattle.down_translator.specs.declared.lowered.LoweredMessage.{LoweredMessage}
use Rattle.down_translator.specs.declared.shortened.ShortenedMessage.{ShortenedMessage}
use Rattle.down_translator.specs.declared.statuses.Statuses.TheVariants.{Changes}
use Rattle.down_translator.specs.Held.{DownState, lanes_after_packet, paired_of, unless_refused}
use Rattle.down_translator.specs.KeptLanes.{is_plain, kept_by, lane_at, lanes_after, piece_by, with_lane}
use Rattle.down_translator.specs.Lowered.{IsShortenedStep, attribute_line, goes_shortened, lowered_bytes, has_attribute}
use Rattle.down_translator.specs.Lowered.{message_goes_direct, shortened_bytes, unless_running, voice_of}
use Rattle.down_translator.specs.Step.{IsStep, lane_of}
use Rattle.down_translator.proofs.LoweredLaws.{IsSingle, direct_packet, is_single_of}
use Rattle.down_translator.proofs.PieceLaws.{piece1, single_piece}

pub compact_is : (style : Style) → is_plain style ≡ false → style ≡ compact_style
compact_is plain_style e = cc
compact_is compact_style e = refl

module _ (state : DownState) (m : DirectMessage) (l : LoweredMessage) where
  abbrev p : Packet
  p = packet.Voice2 m.group (direct_voice m)

  abbrev lane : LaneState
  lane = lane_at state.lanes.states m.group

  piece_is : (offset : ℕ) → state.lanes.style ≡ compact_style → lowered_bytes l ≡ spelled_voice (voice_of m)
      → IsSingle (paired_of state) offset m.group (direct_voice m) (voice_of m) (has_attribute m)
      → without_status lane.running (lowered_bytes l) ≡ piece_by (paired_of state) state.lanes.style lane None p
  piece_is offset is_compact bytes is =
      ap (without_status lane.running) bytes
      ∙ piece1 (paired_of state) compact_style lane m.group (voice_of m)
      ∙ single_piece (paired_of state) compact_style lane m.group (direct_voice m) (voice_of m) is.messages
      ∙ sym (ap (λ style. piece_by (paired_of state) style lane None p) is_compact)

  pub shortened_step : (offset : ℕ) (carried : Carried) → IsDirectMessage m → is_plain state.lanes.style ≡ false
      → message_goes_direct (paired_of state) m ≡ true
      → l.lane ≡ m.group → lowered_bytes l ≡ spelled_voice (voice_of m) → l.has_attribute ≡ has_attribute m
      → carried.piece.now ≡ without_status (lane_at state.lanes.states l.lane).running (lowered_bytes l) → lane_in carried ≡ l.lane
      → line_in carried ≡ attribute_line offset l.lane l.has_attribute → IsStep state offset p carried
  shortened_step offset carried value compact direct lane_is bytes attribute piece in_lane line =
      let is : IsSingle (paired_of state) offset m.group (direct_voice m) (voice_of m) (has_attribute m) =
      is_single_of (paired_of state) m offset direct value in
      record {
        accepted = is.accepted;
        piece = piece ∙ ap (λ group. without_status (lane_at state.lanes.states group).running (lowered_bytes l)) lane_is
            ∙ piece_is offset (compact_is state.lanes.style compact) bytes is;
        lane = in_lane ∙ lane_is ∙ sym (ap (λ told. lane_of (Some m.group) told) is.carried);
        line =
            line
            ∙ ap (λ group. attribute_line offset group l.has_attribute) lane_is
            ∙ ap (λ left_out. attribute_line offset m.group left_out) attribute
            ∙ is.line;
      }

  pub kept_shortened : IsDirectMessage m → message_goes_direct (paired_of state) m ≡ true → l.lane ≡ m.group
      → lowered_bytes l ≡ spelled_voice (voice_of m)
      → kept_by l.lane (Changes (Some l.status)) (λ channels. channels) state.lanes ≡ lanes_after_packet p state
  kept_shortened value direct lane_is bytes =
      let is : IsSingle (paired_of state) 0 m.group (direct_voice m) (voice_of m) (has_attribute m) =
      is_single_of (paired_of state) m 0 direct value in
      ap (λ group. kept_by group (Changes (Some l.status)) (λ channels. channels) state.lanes) lane_is
      ∙ ap (λ status. with_lane m.group (record { running = Some status; channels = lane.channels }) state.lanes)
      (ap (λ bytes. slice_index bytes 0) bytes)
      ∙ ap (λ messages. with_lane m.group (record { running = running_over messages lane.running; channels = lane.channels }) state.lanes)
      (sym is.messages)
      ∙ ap (λ channels. with_lane m.group
      (record { running = running_over (voice_messages (paired_of state) (direct_voice m)) lane.running; channels = channels })
      state.lanes)
      (is.kept lane.channels)
      ∙ sym (ap (λ bad. lanes_after (unless_refused bad (Some m.group)) None p state.lanes) is.accepted)

-- ---- the packets that are taken so

pub same_shortened : (state : DownState) (p : Packet) (m : DirectMessage) → IsDirectMessage m
    → p ≡ packet.Voice2 m.group (direct_voice m)
    → goes_shortened state p ≡ (not (is_plain state.lanes.style) && message_goes_direct state.lanes.paired m)
same_shortened state p m is same =
    ap (goes_shortened state) same ∙ ap (λ direct. not (is_plain state.lanes.style) && direct) (direct_packet state.lanes.paired m is)

pub both_shortened : (plain direct : Bool) → (not plain && direct) ≡ true → (plain ≡ false) × (direct ≡ true)
both_shortened true direct e = cc
both_shortened false direct e = (refl, e)

-- the bytes of a message, by whether its status byte is the running status
pub shortened_is : (running : Option ℕ) (l : LoweredMessage) (s : ShortenedMessage) → s.is_running ≡ is_running running l.status
    → s.status ≡ l.status → s.first ≡ l.first → s.second ≡ l.second
    → shortened_bytes s ≡ without_status running (lowered_bytes l)
shortened_is running l s same status first second =
    ap (λ is. unless_running is s.status (s.first ∷ option_to_list s.second)) same
    ∙ ap (λ status. unless_running (is_running running l.status) status (s.first ∷ option_to_list s.second)) status
    ∙ ap (λ first. unless_running (is_running running l.status) l.status (first ∷ option_to_list s.second)) first
    ∙ ap (λ second. unless_running (is_running running l.status) l.status (l.first ∷ option_to_list second)) second

pub taken_shortened : (state : DownState) (m : DirectMessage) (l : LoweredMessage) (s : ShortenedMessage) → IsDirectMessage m
    → (not (is_plain state.lanes.style) && message_goes_direct state.lanes.paired m) ≡ true
    → l.lane ≡ m.group → lowered_bytes l ≡ spelled_voice (voice_of m) → l.has_attribute ≡ has_attribute m
    → s.lane ≡ l.lane → s.has_attribute ≡ l.has_attribute
    → shortened_bytes s ≡ without_status (lane_at state.lanes.states l.lane).running (lowered_bytes l)
    → IsShortenedStep state (packet.Voice2 m.group (direct_voice m)) s (record {
      exclusives = state.exclusives;
      lanes = kept_by l.lane (Changes (Some l.status)) (λ channels. channels) state.lanes;
    })
taken_shortened state m l s is whole lane bytes attribute lane_is attribute_is bytes_are =
    let told = both_shortened (is_plain state.lanes.style) (message_goes_direct state.lanes.paired m) whole in
    record {
      whole = same_shortened state (packet.Voice2 m.group (direct_voice m)) m is refl ∙ whole;
      lane = omega (arith, lane_is, lane, is.group);
      step = λ offset carried answered.
          shortened_step state m l offset carried is told.0 told.1 lane bytes attribute
          (answered.piece ∙ bytes_are) (answered.lane ∙ lane_is)
          (answered.line
          ∙ ap (λ group. attribute_line offset group s.has_attribute) lane_is
          ∙ ap (λ left_out. attribute_line offset l.lane left_out) attribute_is);
      after = λ offset.
          ap (λ lanes. record { exclusives = state.exclusives; lanes = lanes })
          (sym (kept_shortened state m l is told.1 lane bytes));
    }
