-- The engine by what its endpoint holds, from the first packet to the last.
use Rattle.std.specs.Prelude.{◌≡◌, refl, ◌≤◌, true, List, [], ◌∷◌, ◌++◌}
use Rattle.packet_words.specs.declared.words.Framed.{Framed}
use Rattle.ump_grammar.specs.declared.packet.Packet.{Packet}
use Rattle.function_blocks.specs.Profiles.{profiles_are_distinct}
use Rattle.ci_responder.specs.Held.{muid_in}
use Rattle.ci_responder.specs.Keys.{state_in}
use Rattle.ci_text.specs.Profiles.{profile_lines}
use Rattle.ci_text.specs.declared.profiles.LinePlace.TheVariants.{Notes}
use Rattle.listing_terms.specs.ExclusiveLines.{groups}
use Rattle.endpoint_lines.specs.EndpointLines.{protocol_text}
use Rattle.pass_loop.specs.Each.{for_each}
use Rattle.pass_loop.specs.Put.{Put, in_notes}
use Rattle.listing_lines.specs.Open.{open_puts}
use Rattle.packet_input.specs.Placed.{all_placed}
use Rattle.ump_endpoint.specs.Held.{EndpointState, held_over, new_endpoint}
use Rattle.ump_endpoint.specs.Laws.{ArePackets}
use Rattle.endpoint_pass.specs.Answering.{block_line_of}
use Rattle.endpoint_pass.specs.Options.{EndpointOptions}
use Rattle.endpoint_pass.specs.declared.endpoint.EndpointEngine.{EndpointEngine}

-- ---- the end

-- the lines of the blocks and of the profiles
abbrev pub setup_lines : EndpointState → List Put
setup_lines held =
    for_each (block_line_of (muid_in held.responder.blocks)) 0 held.setup.blocks
    ++ profile_lines Notes (state_in held.responder.states) held.setup.profiles

abbrev pub held_closing : EndpointState → List Put
held_closing held = open_puts held.exclusives groups ++ (in_notes (protocol_text held.protocol) ∷ [] ++ setup_lines held)

-- ---- from the first to the last

abbrev pub endpoint_options : EndpointEngine → EndpointOptions
endpoint_options first =
    record { setup = first.endpoint.held.setup; order = first.order; room = first.endpoint.held.exclusives.room }

-- an endpoint to which nothing has come
pub record IsReadyEndpoint (first : EndpointEngine) : Type 0 where
  pub least : 6 ≤ first.endpoint.held.exclusives.room
  pub distinct : profiles_are_distinct first.endpoint.held.setup.profiles ≡ true
  pub held_is : first.endpoint.held ≡ new_endpoint first.endpoint.held.setup first.endpoint.held.exclusives.room

-- it holds what these packets leave, newest first
pub record HoldsEndpoint (first now : EndpointEngine) (past : List (Framed × Packet)) : Type 0 where
  pub least : 6 ≤ first.endpoint.held.exclusives.room
  pub distinct : profiles_are_distinct first.endpoint.held.setup.profiles ≡ true
  pub order_is : now.order ≡ first.order
  pub packets : ArePackets (all_placed past)
  pub held_is : now.endpoint.held ≡ held_over first.endpoint.held.setup first.endpoint.held.exclusives.room (all_placed past)

pub answers_nothing : (first : EndpointEngine) → IsReadyEndpoint first → HoldsEndpoint first first []
answers_nothing first ready = record {
  least = ready.least;
  distinct = ready.distinct;
  order_is = refl;
  packets = tt;
  held_is = ready.held_is;
}
