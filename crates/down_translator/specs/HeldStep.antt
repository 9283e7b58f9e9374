-- Packets whose bytes are only kept: they continue an exclusive by six bytes (M2-104-UM, system exclusive
-- 7-bit messages).
use Rattle.std.specs.Prelude.{◌≡◌, ◌&&◌, ℕ, Bool, true, false, [], Option, Some, None}
use Rattle.encoded_packets.specs.Parts.{continues_by_six}
use Rattle.ump_grammar.specs.declared.packet.Packet.{Packet}
use Rattle.sysex_groups.specs.Exclusives.{Answer, Part, held}
use Rattle.sysex_groups.specs.Table.{Table, answer_to}
use Rattle.midi_meaning.specs.Parts.{part_of}
use Rattle.down_translator.specs.declared.carried.Carried.{Carried}
use Rattle.down_translator.specs.Carried.{lane_in, line_in}
use Rattle.down_translator.specs.Held.{DownState, down_after}
use Rattle.down_translator.specs.Step.{IsStep}

abbrev pub is_held : Answer → Bool
is_held held = true
is_held _ = false

-- the bytes of a part are only kept: it continues an exclusive that its group has open, and that stays within the limit
abbrev pub holds_part : Table → Option Part → Bool
holds_part table None = false
holds_part table (Some part) = is_held (answer_to table part)

-- the packets that only add six bytes to the exclusive that their group has open
abbrev pub goes_held : DownState → Packet → Bool
goes_held state packet = continues_by_six packet && holds_part state.exclusives (part_of 0 packet)

-- an answer without bytes and without a line
pub record IsNothing (carried : Carried) : Type 0 where
  pub piece : carried.piece.now ≡ []
  pub lane : lane_in carried ≡ 0
  pub line : line_in carried ≡ None

-- It is the whole step of a packet at any offset: an answer without bytes and without a line is the packet's, and this is the state
-- after it.
pub record IsHeldStep (state : DownState) (packet : Packet) (behind : DownState) : Type 0 where
  pub whole : goes_held state packet ≡ true
  pub step : (offset : ℕ) (carried : Carried) → IsNothing carried → IsStep state offset packet carried
  pub after : (offset : ℕ) → down_after offset packet state ≡ behind
