-- The lanes, as they are written in a style: what is written of a packet, and what is kept of each lane in compact style.
use Rattle.std.specs.Prelude.{◌≡◌, ℕ, Bool, true, false, List, drop, replicate, slice_index_or, slice_set, Option, Some, None}
use Rattle.voice_messages.specs.declared.voice1.System.{System}
use Rattle.voice_messages.specs.declared.voice1.System.TheVariants as system
use Rattle.voice_messages.specs.declared.voice2.Voice2.{Voice2}
use Rattle.voice_messages.specs.declared.voice2.Voice2.TheVariants as voice2
use Rattle.ump_grammar.specs.declared.packet.Packet.{Packet}
use Rattle.ump_grammar.specs.declared.packet.Packet.TheVariants as packet
use Rattle.midi1_bytes.specs.Messages.{Message, system_message}
use Rattle.midi1_bytes.specs.RunningStatus.{running_after}
use Rattle.midi_meaning.specs.Controllers.{Role, channel_mode, coarse, plain, reset_all}
use Rattle.midi_meaning.specs.Registers.{Registers}
use Rattle.midi_meaning.specs.Plain.{plain_piece}
use Rattle.midi_meaning.specs.LaneState.{LaneState, compact_by, lane_state_after, new_lane}
use Rattle.midi_meaning.specs.Styles.{Style, plain_style, compact_style}
use Rattle.down_translator.specs.declared.style.Style.{Style as NamedStyle}
use Rattle.down_translator.specs.declared.style.Style.TheVariants.{Plain, Compact}
use Rattle.down_translator.specs.declared.statuses.Statuses.{Statuses}
use Rattle.down_translator.specs.declared.statuses.Statuses.TheVariants.{All, Changes}

-- the style that the code names
abbrev pub style_in : NamedStyle → Style
style_in Plain = plain_style
style_in Compact = compact_style

abbrev pub is_plain : Style → Bool
is_plain plain_style = true
is_plain compact_style = false

-- whether controllers are paired, known in one style alone
abbrev pub when_plain : Style → Bool → Option Bool
when_plain plain_style paired = Some paired
when_plain compact_style paired = None

abbrev pub when_compact : Style → Bool → Option Bool
when_compact plain_style paired = None
when_compact compact_style paired = Some paired

-- the style, whether controllers are paired, and what is kept of each of the sixteen lanes; in plain style that stays as it begins
pub record KeptLanes : Type 0 where
  pub style : Style
  pub paired : Bool
  pub states : List LaneState

abbrev pub new_lanes : Bool → Style → KeptLanes
new_lanes paired style = record { style = style; paired = paired; states = replicate 16 new_lane }

abbrev pub lane_at : List LaneState → ℕ → LaneState
lane_at states lane = slice_index_or states lane new_lane

-- ---- what is written

-- a control change of MIDI 2.0 that is carried by one of MIDI 1.0, and one that is carried by two
abbrev pub is_single : Role → Bool
is_single channel_mode = true
is_single reset_all = true
is_single plain = true
is_single _ = false

abbrev pub is_pair : Role → Bool
is_pair coarse = true
is_pair _ = false

-- a message other than a control change if controllers are paired
abbrev pub IsUnpaired : Bool → Voice2 → Type 0
IsUnpaired paired (voice2.Control channel index value) = paired ≡ false
IsUnpaired paired message = Unit {0}

-- which status bytes are written
abbrev pub statuses_in : Style → LaneState → Statuses
statuses_in plain_style lane = All
statuses_in compact_style lane = Changes lane.running

-- messages without the two that select, if what they select is there
abbrev pub unless_there : Bool → List Message → List Message
unless_there true messages = drop 2 messages
unless_there false messages = messages

-- in plain style nothing counts as there
abbrev pub is_there : Style → Bool → Bool
is_there plain_style there = false
is_there compact_style there = there

-- ---- what is kept

abbrev pub states_by : Style → ℕ → LaneState → List LaneState → List LaneState
states_by plain_style group lane states = states
states_by compact_style group lane states = slice_set states group lane

-- a lane of which this is kept from now on
abbrev pub with_lane : ℕ → LaneState → KeptLanes → KeptLanes
with_lane group lane lanes = record { style = lanes.style; paired = lanes.paired; states = states_by lanes.style group lane lanes.states }

-- by the status bytes that are written from now on, and a change of registers
abbrev pub kept_by : ℕ → Statuses → (List Registers → List Registers) → KeptLanes → KeptLanes
kept_by group All change lanes = lanes
kept_by group (Changes running) change lanes =
    with_lane group (record { running = running; channels = change (lane_at lanes.states group).channels }) lanes

-- a system message: a common one ends the running status, Real Time leaves it, and System Reset leaves nothing
abbrev pub after_system : System → LaneState → LaneState
after_system system.Reset lane = new_lane
after_system message lane = record { running = running_after (system_message message) lane.running; channels = lane.channels }

-- the lane whose state a packet may change, if there is one
abbrev pub lane_written : Option (List ℕ) → Packet → Option ℕ
lane_written whole (packet.System group message) = Some group
lane_written whole (packet.Voice1 group message) = Some group
lane_written (Some whole) (packet.Exclusive group form bytes) = Some group
lane_written whole (packet.Voice2 group message) = Some group
lane_written whole _ = None

-- what is kept after a packet that is written into this lane
abbrev pub lanes_after : Option ℕ → Option (List ℕ) → Packet → KeptLanes → KeptLanes
lanes_after None whole packet lanes = lanes
lanes_after (Some group) whole packet lanes =
    with_lane group (lane_state_after lanes.paired (lane_at lanes.states group) whole packet) lanes

-- an exclusive that ends ends the running status
abbrev pub with_exclusive : ℕ → KeptLanes → KeptLanes
with_exclusive group lanes = with_lane group (record { running = None; channels = (lane_at lanes.states group).channels }) lanes

-- ---- with paired controllers or without

module _ (paired : Bool) where
  -- the piece of a voice message
  abbrev pub voice_piece : Style → LaneState → Packet → List ℕ
  voice_piece plain_style lane packet = plain_piece paired None packet
  voice_piece compact_style lane packet = compact_by paired lane None packet

  -- The piece of a packet, with the bytes of the exclusive that it ends, if it ends one. The status byte of a system message or of an
  -- exclusive is never the running status.
  abbrev pub piece_by : Style → LaneState → Option (List ℕ) → Packet → List ℕ
  piece_by style lane whole (packet.Voice1 group message) = voice_piece style lane (packet.Voice1 group message)
  piece_by style lane whole (packet.Voice2 group message) = voice_piece style lane (packet.Voice2 group message)
  piece_by style lane whole packet = plain_piece paired whole packet
