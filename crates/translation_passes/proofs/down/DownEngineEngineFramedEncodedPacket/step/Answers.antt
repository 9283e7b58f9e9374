use Rattle.std.proofs.Common.{◌≡◌, ℕ, Bool, List, ◌++◌, Option, None, refl, ap, ◌∙◌, subst}
use Rattle.std.specs.Prelude.{Some}
use Rattle.std.specs.Option.{option_to_list}
use Rattle.midi_meaning.specs.declared.listed.BadStep.{BadStep}
use Rattle.midi_meaning.specs.Packets.{IsInRange}
use Rattle.midi_meaning.specs.Parts.{Placed, parts_of}
use Rattle.midi_meaning.specs.Refusal.{bad_step}
use Rattle.midi_meaning.specs.Styles.{Style, styled_over, styled_pair}
use Rattle.down_translator.specs.Carried.{line_in}
use Rattle.down_translator.specs.Held.{DownState, down_after, limit_of, paired_of, refusal_in, style_of}
use Rattle.down_translator.specs.Recording.{packets_of}
use Rattle.down_translator.specs.Step.{IsStep}
use Rattle.pass_loop.specs.Pass.{Takes}
use Rattle.pass_loop.specs.ForProofs.StepLaws.{takes_steps}
use Rattle.listing_lines.specs.Lines.{line_puts}
use Rattle.listing_lines.specs.Refusal.{refusal_by}
use Rattle.translation_passes.specs.Down.{carrying, down_options, pair_puts}
use Rattle.packet_input.specs.Placed.{all_placed, placed_of}
use Rattle.translation_passes.proofs.down.DownEngineEngineFramedEncodedPacket.step.Goals as goal

none_bad : (bad : Option BadStep) (offset : ℕ) → refusal_by bad offset ≡ None → bad ≡ None
none_bad None offset e = refl
none_bad (Some bad) offset e = cc

pub carry-requires-clause-begun : goal.carry-requires-clause-begun
carry-requires-clause-begun g c = c.requires.begun tt

pub returns : goal.returns
returns g c = λ first past holds given.
    let old = g.O.Outputs.places c.args.outputs.now in
    let new = g.O.Outputs.places c.carry.new.outputs in
    let paired : Bool = paired_of first.down in
    let laws = c.what_is_held_is_the_definition.ensures paired in
    let more = c.one_more_accepted_packet_adds_its_pair_and_line.ensures paired in
    let packet = c.args.item.now in
    let offset : ℕ = c.args.at.now.offset in
    let style : Style = style_of first.down in
    let room : ℕ = limit_of first.down in
    let placed : Placed = placed_of (c.args.at.now, packet) in
    let before : List Placed = all_placed past in
    let carries = c.carry.ensures.carries in
    let bad_is : refusal_in c.args.self.now.down packet ≡ bad_step (Some room) (parts_of before) packet =
    ap (λ state. refusal_in state packet) holds.state_is ∙ laws.refusal style room before holds.least holds.range packet in
    let T : Option BadStep → Type 0 = λ bad. Takes (refusal_by bad offset) carries.0 old new c.carry.result in
    takes_steps (carrying (down_options first.down)) past (c.args.at.now, packet) old new _ c.carry.result carries.0
    (subst T bad_is carries.2)
    (λ fine.
    let accepted : bad_step (Some room) (parts_of before) packet ≡ None =
    none_bad (bad_step (Some room) (parts_of before) packet) offset fine in
    let in_range : IsInRange packet = c.spelled_packets_are_in_range.ensures packet c.requires.item in
    let answer = carries.1 (bad_is ∙ accepted) in
    let P : DownState → Type 0 = λ state. IsStep state offset packet answer.0 in
    let plain = subst P holds.state_is answer.1 in
    let pair = more.pair style room before placed answer.0 holds.least (in_range, holds.range) holds.accepted plain in
    let line = more.line style room before placed answer.0 holds.least holds.range plain in (
      answer.2
          ∙ ap (λ pairs. pair_puts pairs ++ line_puts (option_to_list (line_in answer.0))) pair
          ∙ ap (λ listed. pair_puts (styled_pair paired style (styled_over paired style (packets_of before)) (packets_of before) packet)
          ++ line_puts (option_to_list listed))
          line,
      record {
        least = holds.least;
        translates = holds.translates;
        range = (in_range, holds.range);
        accepted = (accepted, holds.accepted);
        state_is = c.carry.ensures.after ∙ ap (down_after offset packet) holds.state_is ∙ laws.behind style room before placed;
      },
    )
    )
