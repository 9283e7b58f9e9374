use Rattle.usb_passes.proofs.InputLaws.{splits_the_input}
use Rattle.usb_passes.proofs.laws.a_split_that_is_done_is_that_of_the_input.Goals as goal

pub returns : goal.returns
returns c = splits_the_input c.events_are_those_of_the_bytes.ensures
