use Rattle.std.proofs.Common.{◌≡◌, ◌++◌, List, Option, ℕ, ap, ◌∙◌, subst}
use Rattle.std.specs.Option.{option_to_list}
use Rattle.packet_words.specs.declared.words.Framed.{Framed}
use Rattle.packet_words.specs.declared.words.Order.{Order}
use Rattle.ump_grammar.specs.declared.packet.Packet.{Packet}
use Rattle.function_blocks.specs.Setups.{SetupData}
use Rattle.listing_terms.specs.Parts.{Placed}
use Rattle.listing_terms.specs.declared.listed.BadStep.{BadStep}
use Rattle.pass_loop.specs.Pass.{Takes}
use Rattle.pass_loop.specs.Put.{Put}
use Rattle.pass_loop.specs.ForProofs.StepLaws.{takes_steps}
use Rattle.listing_lines.specs.Lines.{line_puts}
use Rattle.listing_lines.specs.Refusal.{refusal_by}
use Rattle.packet_input.specs.Placed.{all_placed, placed_of}
use Rattle.packet_input.specs.Written.{AreWrittenAndListed}
use Rattle.ump_endpoint.specs.Answers.{packet_outcome, packet_replies}
use Rattle.ump_endpoint.specs.Held.{EndpointState, after_packet, held_over, listed_in}
use Rattle.endpoint_pass.specs.Answering.{answering, outcome_lines, packet_lines}
use Rattle.endpoint_pass.specs.Held.{endpoint_options}
use Rattle.endpoint_pass.specs.ForProofs.Taking.{TakesPacket, lines_in}
use Rattle.endpoint_pass.proofs.endpoint.EndpointEngineEngineFramedEncodedPacket.step.Goals as goal

pub returns : goal.returns
returns g c = λ first past holds asks.
    let old = g.O.Outputs.places c.args.outputs.now in
    let new = g.O.Outputs.places c.take_packet.new.outputs in
    let laws = c.answers_are_those_of_the_history.ensures in
    let item : Framed × Packet = (c.args.at.now, c.args.item.now) in
    let offset : ℕ = c.args.at.now.offset in
    let packet : Packet = c.args.item.now in
    let before : List Placed = all_placed past in
    let placed : Placed = placed_of item in
    let setup : SetupData = first.endpoint.held.setup in
    let room : ℕ = first.endpoint.held.exclusives.room in
    let held : EndpointState = held_over setup room before in
    let O : Order → Type 0 = λ order. TakesPacket order c.args.self.now.endpoint.held offset packet old new c.take_packet.result in
    let H : EndpointState → Type 0 = λ held. TakesPacket first.order held offset packet old new c.take_packet.result in
    let takes = subst H holds.held_is (subst O holds.order_is c.take_packet.ensures.takes) in
    let outcome = laws.outcome setup room before holds.least holds.packets placed in
    let listed = laws.listed setup room before holds.least holds.packets placed in
    let lines : lines_in held offset packet ≡ packet_lines setup room before placed =
    ap (λ o. outcome_lines offset packet o ++ line_puts (option_to_list (listed_in held offset packet))) outcome
    ∙ ap (λ l. outcome_lines offset packet (packet_outcome setup room before placed) ++ line_puts (option_to_list l)) listed in
    let R : List Packet → Type 0 = λ replies. AreWrittenAndListed first.order replies (lines_in held offset packet) takes.0 in
    let L : List Put → Type 0 = λ lines. AreWrittenAndListed first.order (packet_replies setup room before placed) lines takes.0 in
    let put = subst L lines (subst R (laws.replies setup room before holds.least holds.packets placed) takes.1) in
    let T : Option BadStep → Type 0 = λ refusal. Takes (refusal_by refusal offset) takes.0 old new c.take_packet.result in
    takes_steps (answering (endpoint_options first)) past item old new _ c.take_packet.result takes.0
    (subst T (laws.refusal setup room before holds.least holds.packets packet) takes.2)
    (λ fine. (
      put,
      record {
        least = holds.least;
        distinct = holds.distinct;
        order_is = c.take_packet.ensures.order ∙ holds.order_is;
        packets = (c.requires.item, holds.packets);
        held_is =
            c.take_packet.ensures.held
            ∙ ap (after_packet offset packet) holds.held_is
            ∙ laws.after setup room before holds.least holds.packets holds.distinct placed;
      },
    ))
