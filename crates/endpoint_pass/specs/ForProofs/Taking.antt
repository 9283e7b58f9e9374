-- What is done with one packet, by what the endpoint holds.
use Rattle.std.specs.Prelude.{ℕ, List, ◌++◌, Result}
use Rattle.std.specs.Option.{option_to_list}
use Rattle.packet_words.specs.declared.words.Order.{Order}
use Rattle.ump_grammar.specs.declared.packet.Packet.{Packet}
use Rattle.pass_loop.specs.Pass.{Takes}
use Rattle.pass_loop.specs.Places.{Places, Puts}
use Rattle.pass_loop.specs.Put.{Put}
use Rattle.pass_loop.specs.declared.ends.RunEnd.{RunEnd}
use Rattle.listing_lines.specs.Lines.{line_puts}
use Rattle.listing_lines.specs.Refusal.{refusal_by}
use Rattle.packet_input.specs.Written.{AreWritten, AreWrittenAndListed}
use Rattle.ump_endpoint.specs.Held.{EndpointState, listed_in, outcome_in, refusal_in, replies_in}
use Rattle.endpoint_pass.specs.Answering.{outcome_lines}

-- these packets are written, or one of their puts failed
abbrev pub PutsPackets : Order → List Packet → Places → Places → Result (Unit {0}) RunEnd → Type 0
PutsPackets order packets old new result = (puts : List Put) × AreWritten order packets puts × Puts puts old new result

-- the line of the message that a packet at this offset ends, and then that of what is lost by it
abbrev pub lines_in : EndpointState → ℕ → Packet → List Put
lines_in held offset packet =
    outcome_lines offset packet (outcome_in held packet) ++ line_puts (option_to_list (listed_in held offset packet))

-- a packet at this offset is refused, or the replies to it are written and then its lines put, or one of these puts failed
abbrev pub TakesPacket : Order → EndpointState → ℕ → Packet → Places → Places → Result (Unit {0}) RunEnd → Type 0
TakesPacket order held offset packet old new result =
    (puts : List Put)
    × AreWrittenAndListed order (replies_in held packet) (lines_in held offset packet) puts
    × Takes (refusal_by (refusal_in held packet) offset) puts old new result
