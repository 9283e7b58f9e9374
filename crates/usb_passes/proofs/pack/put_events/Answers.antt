use Rattle.std.proofs.Common.{◌≡◌, ℕ, List, Some, ap, sym, subst}
use Rattle.std.specs.Option.{option_map}
use Rattle.pass_loop.specs.Places.{Puts}
use Rattle.usb_midi1.specs.Packed.{whole_in}
use Rattle.usb_midi1.specs.Packing.{exclusive_events}
use Rattle.usb_passes.specs.Pack.{event_puts}
use Rattle.usb_passes.proofs.PackLaws.{only_whole}
use Rattle.usb_passes.proofs.pack.put_events.Goals as goal

pub returns-in-Some-whole : goal.returns-in-Some-whole
returns-in-Some-whole g c =
    let old = g.O.Outputs.places c.args.outputs.now in
    let new = g.O.Outputs.places c.put_exclusive.new.outputs in
    let whole : List ℕ = c.in-Some-whole.whole.now in
    let is : whole_in c.args.packed ≡ Some whole = ap (λ w. option_map (λ bytes. bytes.now) w) c.in-Some-whole.is in
    let P : List (List ℕ) → Type 0 = λ events. Puts (event_puts events) old new c.put_exclusive.result in
    let C : ℕ → Type 0 = λ cable. Puts (event_puts (exclusive_events cable whole)) old new c.put_exclusive.result in
    subst P (sym (only_whole c.args.packed whole c.in-None.is is)) (subst C c.cable.ensures c.put_exclusive.ensures)
