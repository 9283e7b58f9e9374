use Rattle.std.proofs.Common.{◌≡◌, ◌∷◌, ℕ, Bool, false, List, length, refl, ap, sym, ◌∙◌, subst}
use Rattle.std.specs.Prelude.{Some, is_some}
use Rattle.std.proofs.lemmas.List.{length-map}
use Rattle.midi1_bytes.specs.Parsing.{held_over, parse}
use Rattle.midi1_bytes.specs.Steps.{Step, step_of}
use Rattle.midi_meaning.specs.UpRefusal.{AreStepsWithinRoom}
use Rattle.pass_loop.specs.Bytes.{bytes_read}
use Rattle.pass_loop.specs.Pass.{TakesIn}
use Rattle.show_pass.specs.KeptState.{KeepsStep}
use Rattle.listing_lines.specs.Refusal.{refusal_of}
use Rattle.show_pass.specs.ShowBytes.{byte_line_options, showing_bytes, shown_puts}
use Rattle.show_pass.proofs.KeptLaws.{byte_kept, step_within, steps_when_kept}
use Rattle.show_pass.proofs.show_bytes.ShowBytesEngineU64U8.step.Goals as goal

pub returns : goal.returns
returns g c = λ first past holds place.
    let old = g.O.Outputs.places c.args.outputs.now in
    let new = g.O.Outputs.places c.take_byte.new.outputs in
    let laws = c.parsed_bytes_are_the_definition.ensures in
    let now = c.args.self.now in
    let room : ℕ = first.parser.room in
    let bytes : List ℕ = bytes_read past in
    let byte : ℕ = c.args.item.now in
    let offset : ℕ = c.args.at.now in
    let at : offset ≡ length bytes = place ∙ sym (length-map past (λ (item : ℕ × ℕ). item.1)) in
    let step : (parse now.parser offset byte).step ≡ step_of (Some room) bytes byte =
    ap (λ parsing. (parse parsing offset byte).step) holds.parsing_is
    ∙ ap (λ n. (parse (held_over room bytes) n byte).step) at
    ∙ laws.step room bytes byte in
    let T : Step → Type 0 =
    λ step. TakesIn (is_some now.state) (refusal_of step offset) (shown_puts step offset) old new c.take_byte.result in
    let G : Bool → Type 0 =
    λ g. TakesIn g (refusal_of (step_of (Some room) bytes byte) offset) (shown_puts (step_of (Some room) bytes byte) offset) old new
    c.take_byte.result in
    let K : Step → Type 0 = λ step. KeepsStep step now.state c.take_byte.new.self.state in
    steps_when_kept (showing_bytes (byte_line_options first.parser first.state)) past (c.args.at.now, c.args.item.now) old new _
    c.take_byte.result (shown_puts (step_of (Some room) bytes byte) offset)
    (subst G holds.is_kept (subst T step c.take_byte.ensures.takes))
    (λ fine. refl)
    (λ fine all.
    let within : AreStepsWithinRoom room (byte ∷ bytes) = (step_within (step_of (Some room) bytes byte) offset fine, holds.within) in
    record {
      within = within;
      parsing_is =
          c.take_byte.ensures.after
          ∙ ap (λ parsing. (parse parsing offset byte).after) holds.parsing_is
          ∙ ap (λ n. (parse (held_over room bytes) n byte).after) at
          ∙ laws.after room bytes byte;
      is_kept = (c.take_byte.ensures.state all).0 ∙ holds.is_kept;
      stands = byte_kept c.bytes_are_kept.ensures bytes byte now.state c.take_byte.new.self.state holds.stands
          (subst K (step ∙ (c.rooms_that_are_not_reached_do_not_matter_in_bytes.ensures false).step room bytes byte within)
          (c.take_byte.ensures.state all));
    })
