use Rattle.std.proofs.Common.{[], ap, ◌∙◌}
use Rattle.ump_grammar.specs.declared.packet.Packet.TheVariants as packet
use Rattle.voice_messages.specs.declared.voice2.Form.TheVariants as form
use Rattle.midi_meaning.specs.Listing.{groups}
use Rattle.midi_meaning.specs.Parts.{parts_of}
use Rattle.down_translator.specs.Held.{limit_of, paired_of, style_of}
use Rattle.down_translator.specs.Recording.{state_of}
use Rattle.listing_lines.specs.Lines.{line_puts}
use Rattle.listing_lines.specs.Open.{open_puts}
use Rattle.packet_input.specs.Placed.{all_placed}
use Rattle.listing_lines.specs.ForProofs.OpenLaws.{open-ends}
use Rattle.translation_passes.proofs.down.DownEngineEngineFramedEncodedPacket.close.Goals as goal

pub returns : goal.returns
returns g c = λ first past holds.
    let paired = paired_of first.down in
    let style = style_of first.down in
    let room = limit_of first.down in
    let before = all_placed past in
    let begun = (c.what_is_held_is_the_definition.ensures paired).begun style room before holds.least holds.range in
    let ends =
    open-ends room (parts_of before) (state_of paired style room before).exclusives
    (λ group. begun (packet.Exclusive group form.Complete [])) groups in (
      open_puts c.args.self.now.down.exclusives groups,
      ap (λ state. open_puts state.exclusives groups) holds.state_is ∙ ap line_puts ends,
      c.list_open.ensures,
    )
