use Rattle.std.proofs.Common.{◌++◌, ◌∷◌, [], Some, List, ℕ, ap, ◌∙◌}
use Rattle.function_blocks.specs.Setups.{SetupData}
use Rattle.ci_responder.specs.Held.{muid_in}
use Rattle.ci_responder.specs.History.{muid_at, on_at}
use Rattle.ci_responder.specs.Keys.{state_in}
use Rattle.ci_responder.specs.Messages.{Received}
use Rattle.ci_text.specs.ForProofs.ProfileLaws.{same_profiles}
use Rattle.ci_text.specs.Profiles.{profile_lines}
use Rattle.ci_text.specs.declared.profiles.LinePlace.TheVariants.{Notes}
use Rattle.listing_terms.specs.ExclusiveLines.{end_lines, groups}
use Rattle.listing_terms.specs.Parts.{Placed, parts_of}
use Rattle.endpoint_lines.specs.EndpointLines.{protocol_text}
use Rattle.pass_loop.specs.Each.{for_each}
use Rattle.pass_loop.specs.Put.{Put, in_notes}
use Rattle.listing_lines.specs.Lines.{line_puts}
use Rattle.listing_lines.specs.ForProofs.OpenLaws.{open-ends}
use Rattle.packet_input.specs.Placed.{all_placed}
use Rattle.ump_endpoint.specs.Answers.{in_force, received_in_packets}
use Rattle.ump_endpoint.specs.Held.{EndpointState, held_over}
use Rattle.endpoint_pass.specs.Answering.{block_line_of}
use Rattle.endpoint_pass.specs.Held.{held_closing}
use Rattle.endpoint_pass.proofs.ClosingLaws.{blocks_are}
use Rattle.endpoint_pass.proofs.endpoint.EndpointEngineEngineFramedEncodedPacket.close.Goals as goal

pub returns : goal.returns
returns g c = λ first past holds.
    let now = c.args.self.now in
    let laws = c.answers_are_those_of_the_history.ensures in
    let before : List Placed = all_placed past in
    let setup : SetupData = first.endpoint.held.setup in
    let room : ℕ = first.endpoint.held.exclusives.room in
    let held : EndpointState = held_over setup room before in
    let told : List Received = received_in_packets room before in
    let muid = muid_in held.responder.blocks in
    let on = state_in held.responder.states in
    let listed : List Put = line_puts (end_lines (Some room) (parts_of before)) in
    let blocks : List Put = for_each (block_line_of (muid_at setup told)) 0 setup.blocks in
    let lines : List Put → List Put → List Put → List Put =
    λ still blocks profiles. still ++ (in_notes (protocol_text (in_force setup before)) ∷ [] ++ (blocks ++ profiles)) in (
      held_closing now.endpoint.held,
      ap held_closing holds.held_is
          ∙ ap (λ still. lines (line_puts still) (for_each (block_line_of muid) 0 setup.blocks) (profile_lines Notes on setup.profiles))
          (open-ends room (parts_of before) held.exclusives (laws.begun setup room before holds.least holds.packets) groups)
          ∙ ap (λ blocks. lines listed blocks (profile_lines Notes on setup.profiles))
          (blocks_are muid (muid_at setup told) (laws.muid setup room before) setup.blocks)
          ∙ ap (λ profiles. lines listed blocks profiles)
          (same_profiles Notes on (on_at setup told) (laws.on setup room before) setup.profiles),
      c.put_closing.ensures,
    )
