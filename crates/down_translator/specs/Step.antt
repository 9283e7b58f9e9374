-- The translator's answer to a packet, by its state.
use Rattle.std.specs.Prelude.{◌≡◌, ℕ, Bool, true, List, Option, Some, None, Result, Ok, Err}
use Rattle.ump_grammar.specs.declared.packet.Packet.{Packet}
use Rattle.midi_meaning.specs.declared.listed.BadStep.{BadStep}
use Rattle.midi_meaning.specs.Parts.{group_of}
use Rattle.midi_meaning.specs.Listing.{is_carried, listed}
use Rattle.midi_meaning.specs.LaneState.{LaneState, new_lane}
use Rattle.down_translator.specs.declared.carried.Carried.{Carried}
use Rattle.down_translator.specs.Carried.{lane_in, line_in}
use Rattle.down_translator.specs.Held.{DownState, paired_of, style_of, whole_in, begun_at_in, refusal_in}
use Rattle.down_translator.specs.KeptLanes.{lane_at, piece_by}

-- the lane of a packet is its group if it is carried, and otherwise 0
abbrev pub lane_of : Option ℕ → Bool → ℕ
lane_of (Some group) true = group
lane_of _ _ = 0

-- what is kept of the lane of a packet's group
abbrev pub lane_before : DownState → Option ℕ → LaneState
lane_before state None = new_lane
lane_before state (Some group) = lane_at state.lanes.states group

-- the piece of a packet in the translator's style
abbrev pub piece_of : DownState → Packet → List ℕ
piece_of state packet = piece_by (paired_of state) (style_of state) (lane_before state (group_of packet)) (whole_in state packet) packet

-- A packet is accepted with its piece, in its group's lane, and with its line of the listing.
pub record IsStep (state : DownState) (offset : ℕ) (packet : Packet) (carried : Carried) : Type 0 where
  pub accepted : refusal_in state packet ≡ None
  pub piece : carried.piece.now ≡ piece_of state packet
  pub lane : lane_in carried ≡ lane_of (group_of packet) (is_carried (paired_of state) (whole_in state packet) packet)
  pub line : line_in carried ≡ listed (paired_of state) (begun_at_in state packet) offset packet

-- It is refused exactly when there is a reason to refuse it, and for that reason.
abbrev pub Translates : DownState → ℕ → Packet → Result Carried BadStep → Type 0
Translates state offset packet (Ok carried) = IsStep state offset packet carried
Translates state offset packet (Err bad) = refusal_in state packet ≡ Some bad
