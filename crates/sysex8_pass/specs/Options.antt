-- What the pass over 8-bit exclusives may be asked for.
use Rattle.std.specs.Prelude.{ℕ, length}
use Rattle.packet_words.specs.declared.words.Order.{Order}
use Rattle.packet_words.specs.declared.words.Order.TheVariants.{Big}
use Rattle.sysex8_streams.specs.Table.{Table8}

-- A recording whose words have this order. `slots` is the most streams that are begun at once, and `room` the most
-- bytes that an exclusive may have.
pub record Sysex8Options : Type 0 where
  pub slots : ℕ
  pub order : Order
  pub room : ℕ

-- the options of an engine over these streams: the order is that of its reader, and says nothing of the work
abbrev pub options8 : Table8 → Sysex8Options
options8 table = record { slots = length table.slots; order = Big; room = table.room }
