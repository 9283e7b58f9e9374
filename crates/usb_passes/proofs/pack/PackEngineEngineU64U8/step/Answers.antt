use Rattle.std.proofs.Common.{◌≡◌, ℕ, List, length, refl, ap, sym, ◌∙◌, subst}
use Rattle.std.specs.Prelude.{Some}
use Rattle.std.proofs.lemmas.List.{length-map}
use Rattle.midi1_bytes.specs.Parsing.{held_over, parse}
use Rattle.midi1_bytes.specs.Steps.{Step, step_of}
use Rattle.pass_loop.specs.Bytes.{bytes_read}
use Rattle.pass_loop.specs.Pass.{Takes}
use Rattle.pass_loop.specs.ForProofs.StepLaws.{takes_steps}
use Rattle.usb_midi1.specs.Held.{PackerState, packer_over, packer_after, step_in}
use Rattle.listing_lines.specs.Refusal.{refusal_of}
use Rattle.usb_passes.specs.Pack.{pack_options, packed_puts, packing}
use Rattle.usb_passes.proofs.PackLaws.{step_within}
use Rattle.usb_passes.proofs.pack.PackEngineEngineU64U8.step.Goals as goal

pub returns : goal.returns
returns g c = λ first past holds place.
    let old = g.O.Outputs.places c.args.outputs.now in
    let new = g.O.Outputs.places c.pack_byte.new.outputs in
    let packer : PackerState = c.args.self.now.packer in
    let room : ℕ = first.packer.parsing.room in
    let cable : ℕ = first.packer.cable in
    let bytes : List ℕ = bytes_read past in
    let byte : ℕ = c.args.item.now in
    let offset : ℕ = c.args.at.now in
    let at : offset ≡ length bytes = place ∙ sym (length-map past (λ (item : ℕ × ℕ). item.1)) in
    let step : step_in packer offset byte ≡ step_of (Some room) bytes byte =
    ap (λ (p : PackerState). step_in p offset byte) holds.packer_is
    ∙ ap (λ n. (parse (held_over room bytes) n byte).step) at
    ∙ c.parsed_bytes_are_the_definition.ensures.step room bytes byte in
    let C : ℕ → Type 0 =
    λ n. Takes (refusal_of (step_in packer offset byte) offset) (packed_puts n (step_in packer offset byte) offset) old new
    c.pack_byte.result in
    let T : Step → Type 0 = λ s. Takes (refusal_of s offset) (packed_puts cable s offset) old new c.pack_byte.result in
    takes_steps (packing (pack_options first.packer)) past (offset, byte) old new _ c.pack_byte.result
    (packed_puts cable (step_of (Some room) bytes byte) offset)
    (subst T step (subst C (ap (λ (p : PackerState). p.cable) holds.packer_is) c.pack_byte.ensures.takes))
    (λ fine. (
      refl,
      record {
        few = holds.few;
        law = holds.law;
        within = (step_within (step_of (Some room) bytes byte) offset fine, holds.within);
        packer_is =
            c.pack_byte.ensures.after
            ∙ ap (λ (p : PackerState). packer_after p offset byte) holds.packer_is
            ∙ ap (λ n. packer_after (packer_over room cable bytes) n byte) at
            ∙ c.packed_bytes_are_the_definition.ensures.after room cable bytes byte;
      },
    ))
