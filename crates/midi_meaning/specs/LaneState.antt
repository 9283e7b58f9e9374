-- What a translator keeps of a lane for the compact style, instead of the lane's bytes: what a receiver has
-- of those after the last System Reset.
use Rattle.std.specs.Prelude.{ℕ, if◌then◌else◌, List, [], ◌∷◌, replicate, slice_index_or, slice_set, Option, Some, None, Bool}
use Rattle.voice_messages.specs.declared.voice1.Voice1.{Voice1}
use Rattle.voice_messages.specs.declared.voice1.Voice1.TheVariants as voice1
use Rattle.voice_messages.specs.declared.voice1.System.TheVariants as system
use Rattle.voice_messages.specs.declared.voice2.Bank.{Bank}
use Rattle.voice_messages.specs.declared.voice2.Voice2.{Voice2}
use Rattle.voice_messages.specs.declared.voice2.Voice2.TheVariants as voice2
use Rattle.ump_grammar.specs.declared.packet.Packet.{Packet}
use Rattle.ump_grammar.specs.declared.packet.Packet.TheVariants as packet
use Rattle.midi1_bytes.specs.RunningStatus.{running_over, written_under}
use Rattle.midi_meaning.specs.Registers.{Registers, unset_registers, with_bank, with_selected, without_selection, is_null}
use Rattle.midi_meaning.specs.Controllers.{Role, reset_all, role_of}
use Rattle.midi_meaning.specs.Roles.{registers_after}
use Rattle.listing_terms.specs.Parts.{group_of, is_group, whole_of}
use Rattle.midi_meaning.specs.Plain.{plain_messages}
use Rattle.midi_meaning.specs.Compact.{needed_messages}

-- the running status, and the registers of each of the sixteen channels
pub record LaneState : Type 0 where
  pub running : Option ℕ
  pub channels : List Registers

-- of a lane without bytes, and after a System Reset
abbrev pub new_lane : LaneState
new_lane = record { running = None; channels = replicate 16 unset_registers }

abbrev pub registers_at : List Registers → ℕ → Registers
registers_at channels channel = slice_index_or channels channel unset_registers

-- ---- after a packet

-- the registers of one channel change
abbrev pub at_registers_of : ℕ → (Registers → Registers) → List Registers → List Registers
at_registers_of channel change channels = slice_set channels channel (change (registers_at channels channel))

abbrev pub channels_after1 : Voice1 → List Registers → List Registers
channels_after1 (voice1.Control channel index value) channels =
    at_registers_of channel (registers_after (role_of index) value) channels
channels_after1 _ channels = channels

-- of the control changes of MIDI 2.0 only reset all controllers changes registers
abbrev pub channels_after_control2 : Role → ℕ → List Registers → List Registers
channels_after_control2 reset_all channel channels = at_registers_of channel without_selection channels
channels_after_control2 _ channel channels = channels

abbrev pub channels_after_program : ℕ → Option Bank → List Registers → List Registers
channels_after_program channel None channels = channels
channels_after_program channel (Some bank) channels = at_registers_of channel (with_bank bank) channels

abbrev pub channels_after2 : Voice2 → List Registers → List Registers
channels_after2 (voice2.Control channel index value) channels =
    channels_after_control2 (role_of index) channel channels
channels_after2 (voice2.Set channel param value) channels =
    if is_null param then channels else at_registers_of channel (with_selected param) channels
channels_after2 (voice2.Program channel program bank) channels = channels_after_program channel bank channels
channels_after2 _ channels = channels

abbrev pub channels_after : Packet → List Registers → List Registers
channels_after (packet.Voice1 group message) channels = channels_after1 message channels
channels_after (packet.Voice2 group message) channels = channels_after2 message channels
channels_after _ channels = channels

-- ---- with paired controllers or without

module _ (paired : Bool) where
  -- the compact piece of a packet, with the bytes of the exclusive that it ends, if it ends one
  abbrev pub compact_by : LaneState → Option (List ℕ) → Packet → List ℕ
  compact_by lane whole packet =
      written_under lane.running (needed_messages paired (registers_at lane.channels) whole packet)

  -- a packet that leaves something of what was before
  abbrev pub kept_after : LaneState → Option (List ℕ) → Packet → LaneState
  kept_after lane whole packet = record {
    running = running_over (plain_messages paired whole packet) lane.running;
    channels = channels_after packet lane.channels;
  }

  -- what is kept of a lane after a packet of its group that isn't refused
  abbrev pub lane_state_after : LaneState → Option (List ℕ) → Packet → LaneState
  lane_state_after lane whole (packet.System group system.Reset) = new_lane
  lane_state_after lane whole packet = kept_after lane whole packet

  -- what is kept of the lane of a group after these packets of all groups, newest first
  abbrev pub lane_state_over : List Packet → ℕ → LaneState
  lane_state_over [] group = new_lane
  lane_state_over (packet ∷ past) group =
      if is_group (group_of packet) group then
      lane_state_after (lane_state_over past group) (whole_of past packet) packet
      else lane_state_over past group
