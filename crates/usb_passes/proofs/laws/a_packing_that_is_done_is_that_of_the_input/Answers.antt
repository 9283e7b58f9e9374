use Rattle.usb_passes.proofs.InputLaws.{packs_the_input}
use Rattle.usb_passes.proofs.laws.a_packing_that_is_done_is_that_of_the_input.Goals as goal

pub returns : goal.returns
returns c = packs_the_input
