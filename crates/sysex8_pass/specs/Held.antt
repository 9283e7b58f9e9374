-- What is put for a packet by what the streams hold, and what they hold after it.
use Rattle.std.specs.Prelude.{◌≡◌, ◌≤◌, ℕ, List, [], length, Option, None, Some}
use Rattle.std.specs.Option.{option_map}
use Rattle.packet_words.specs.declared.words.Framed.{Framed}
use Rattle.ump_grammar.specs.declared.packet.Packet.{Packet}
use Rattle.ump_grammar.specs.declared.packet.Packet.TheVariants as packet
use Rattle.sysex8_streams.specs.declared.part8.Part8.{Part8}
use Rattle.sysex8_streams.specs.History.{part_of}
use Rattle.sysex8_streams.specs.Laws.{FedStreamsAreTheDefinition}
use Rattle.sysex8_streams.specs.Table.{Table8, AreParts8, empty_table8, begun8_in, with_part8, table8_over}
use Rattle.sysex8_pass.specs.Parts.{part_in, parts_at}

-- the offset at which the exclusive of each stream began
abbrev pub starts_in : Table8 → ℕ → Option ℕ
starts_in table key = option_map (λ begun. begun.start) (begun8_in table key)

-- the streams after a packet
abbrev pub data8_after : ℕ → Option Part8 → Table8 → Table8
data8_after offset None table = table
data8_after offset (Some part) table = with_part8 (part_of part offset) table

abbrev pub packet_after : ℕ → Packet → Table8 → Table8
packet_after offset (packet.Data8 group words) table = data8_after offset (part_in words) table
packet_after offset _ table = table

-- idle slots, at least one
pub record IsReady8 (first : Table8) : Type 0 where
  pub law : FedStreamsAreTheDefinition
  pub some : 1 ≤ length first.slots
  pub empty : first ≡ empty_table8 (length first.slots) first.room
  pub least : 13 ≤ first.room

-- the streams hold what these packets leave
pub record Holds8 (first now : Table8) (past : List (Framed × Packet)) : Type 0 where
  pub law : FedStreamsAreTheDefinition
  pub some : 1 ≤ length first.slots
  pub least : 13 ≤ first.room
  pub parts : AreParts8 (parts_at past)
  pub table_is : now ≡ table8_over (length first.slots) first.room (parts_at past)

pub nothing_held : (first : Table8) → IsReady8 first → Holds8 first first []
nothing_held first ready = record { law = ready.law; some = ready.some; least = ready.least; parts = tt; table_is = ready.empty }
