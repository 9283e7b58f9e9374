-- Packets of four words that are added to replies.
use Rattle.std.specs.Prelude.{ℕ, ◌≡◌, ◌+◌, ◌*◌, List, length}
use Rattle.ump_grammar.specs.declared.packet.Packet.{Packet}
use Rattle.ump_grammar.specs.Replies.{AddsPackets}

-- these packets were added at the end, four words each
pub record Pushes (packets : List Packet) (old new : List ℕ) : Type 0 where
  pub added : AddsPackets packets old new
  pub count : length new ≡ length old + 4 * length packets
