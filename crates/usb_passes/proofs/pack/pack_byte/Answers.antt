use Rattle.std.proofs.Common.{sym, subst}
use Rattle.std.specs.Prelude.{Err}
use Rattle.pass_loop.specs.Pass.{Takes}
use Rattle.pass_loop.specs.declared.ends.RunEnd.{RunEnd}
use Rattle.listing_lines.specs.Refusal.{refusal_of}
use Rattle.usb_passes.specs.Pack.{packed_puts}
use Rattle.midi1_bytes.specs.Steps.{Step}
use Rattle.usb_midi1.specs.Held.{step_in}
use Rattle.usb_passes.proofs.PackLaws.{accepts, has_both_ends, refuses}
use Rattle.usb_passes.proofs.pack.pack_byte.Goals as goal

pub put_packed-requires-clause-whole : goal.put_packed-requires-clause-whole
put_packed-requires-clause-whole g c = has_both_ends c.in-Ok.packed _ _ _ c.in-Ok.ensures.answer

pub returns-in-Ok-clause-takes : goal.returns-in-Ok-clause-takes
returns-in-Ok-clause-takes g c =
    let old = g.O.Outputs.places c.args.outputs.now in
    let new = g.O.Outputs.places c.put_packed.new.outputs in
    let step : Step = step_in c.args.packer.now c.args.offset c.args.byte in
    accepts c.in-Ok.packed c.args.packer.now.cable c.args.offset step old new c.put_packed.result c.in-Ok.ensures.answer
    c.put_packed.ensures

pub returns-in-Err-clause-takes : goal.returns-in-Err-clause-takes
returns-in-Err-clause-takes g c =
    let old = g.O.Outputs.places c.args.outputs.now in
    let step : Step = step_in c.args.packer.now c.args.offset c.args.byte in
    let T : RunEnd → Type 0 =
    λ end. Takes (refusal_of step c.args.offset) (packed_puts c.args.packer.now.cable step c.args.offset) old old (Err end) in
    subst T (sym c.refused.ensures) (refuses c.args.packer.now.cable c.args.offset step old c.in-Err.ensures.answer)
