use Rattle.std.proofs.Common.{◌≡◌, ℕ, List, Some, ap, sym, ◌∙◌}
use Rattle.std.specs.List.{concat}
use Rattle.std.specs.Option.{option_map}
use Rattle.usb_midi1.specs.Packed.{whole_in}
use Rattle.usb_midi1.specs.Packing.{exclusive_events}
use Rattle.c_answers.specs.Fronts.{with_front}
use Rattle.c_streams.proofs.PackedLaws.{only_whole}
use Rattle.c_streams.proofs.usb.put_events.Goals as goal

pub returns-in-Some-whole-clause-written : goal.returns-in-Some-whole-clause-written
returns-in-Some-whole-clause-written c =
    let whole : List ℕ = c.in-Some-whole.whole.now in
    let is : whole_in c.args.packed ≡ Some whole = ap (λ w. option_map (λ bytes. bytes.now) w) c.in-Some-whole.is in
    c.put_exclusive.ensures.written
    ∙ ap (λ cable. with_front (concat (exclusive_events cable whole)) c.args.buffer.now) c.cable.ensures
    ∙ ap (λ events. with_front (concat events) c.args.buffer.now) (sym (only_whole c.args.packed whole c.in-None.is is))
