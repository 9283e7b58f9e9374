-- The state of the translator, and what it determines of one more packet.
use Rattle.std.specs.Prelude.{ℕ, Bool, List, Option, Some, None}
use Rattle.std.specs.Option.{option_map, option_and_then}
use Rattle.ump_grammar.specs.declared.packet.Packet.{Packet}
use Rattle.ump_grammar.specs.declared.packet.Packet.TheVariants as packet
use Rattle.sysex_groups.specs.Exclusives.{Part, Answer, too_long, ended_by}
use Rattle.sysex_groups.specs.Table.{Table, begun_in, answer_to, with_part, empty_table}
use Rattle.midi_meaning.specs.declared.listed.BadStep.{BadStep}
use Rattle.midi_meaning.specs.declared.listed.BadStep.TheVariants as bad
use Rattle.midi_meaning.specs.Refusal.{bad_voice1, bad_voice2}
use Rattle.midi_meaning.specs.Parts.{part_of}
use Rattle.midi_meaning.specs.Styles.{Style}
use Rattle.down_translator.specs.KeptLanes.{KeptLanes, lane_written, lanes_after, new_lanes}

-- the exclusives of all groups that are open, and the lanes
pub record DownState : Type 0 where
  pub exclusives : Table
  pub lanes : KeptLanes

-- a new translator in a style, with this limit for the bytes of an exclusive, with paired controllers or without: nothing is open, and
-- nothing is written
abbrev pub new_down : Bool → Style → ℕ → DownState
new_down paired style limit = record { exclusives = empty_table limit; lanes = new_lanes paired style }

-- the style of its lanes
abbrev pub style_of : DownState → Style
style_of state = state.lanes.style

-- whether controllers are paired
abbrev pub paired_of : DownState → Bool
paired_of state = state.lanes.paired

-- the most bytes of an exclusive between F0 and F7
abbrev pub limit_of : DownState → ℕ
limit_of state = state.exclusives.room

-- the bytes of the exclusive that a part ends, if it ends one
abbrev pub whole_with : Table → Part → Option (List ℕ)
whole_with table part = ended_by (Some table.room) part.form (option_map (λ begun. begun.bytes) (begun_in table part.group)) part.bytes

-- the bytes of the exclusive that a packet ends, if it ends one
abbrev pub whole_in : DownState → Packet → Option (List ℕ)
whole_in state packet = option_and_then (whole_with state.exclusives) (part_of 0 packet)

-- where the exclusive that the packet's group has open started; only packets of exclusives ask for it
abbrev pub begun_at_in : DownState → Packet → Option ℕ
begun_at_in state (packet.Exclusive group form bytes) = option_map (λ begun. begun.start) (begun_in state.exclusives group)
begun_at_in state _ = None

abbrev pub bad_answer : Answer → Option BadStep
bad_answer too_long = Some bad.ExclusiveTooLong
bad_answer _ = None

-- why a packet is refused, if it is refused
abbrev pub refusal_in : DownState → Packet → Option BadStep
refusal_in state (packet.Voice1 group message) = bad_voice1 message
refusal_in state (packet.Voice2 group message) = bad_voice2 message
refusal_in state packet = option_and_then (λ part. bad_answer (answer_to state.exclusives part)) (part_of 0 packet)

-- the exclusives after a part, if there is one
abbrev pub with_part_of : Option Part → Table → Table
with_part_of None table = table
with_part_of (Some part) table = with_part part table

-- a packet that is refused is written into no lane
abbrev pub unless_refused : Option BadStep → Option ℕ → Option ℕ
unless_refused None lane = lane
unless_refused (Some bad) lane = None

-- the lanes after a packet
abbrev pub lanes_after_packet : Packet → DownState → KeptLanes
lanes_after_packet packet state =
    let whole : Option (List ℕ) = whole_in state packet in
    lanes_after (unless_refused (refusal_in state packet) (lane_written whole packet)) whole packet state.lanes

-- The state after a packet at this offset, whether it is refused or not: only packets of exclusives change what is open, and
-- only packets that are accepted change what is kept of the lanes.
abbrev pub down_after : ℕ → Packet → DownState → DownState
down_after offset packet state = record {
  exclusives = with_part_of (part_of offset packet) state.exclusives;
  lanes = lanes_after_packet packet state;
}
