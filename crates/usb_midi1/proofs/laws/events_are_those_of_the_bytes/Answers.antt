use Rattle.usb_midi1.proofs.EventLaws.{those_of_the_bytes}
use Rattle.usb_midi1.proofs.laws.events_are_those_of_the_bytes.Goals as goal

pub returns : goal.returns
returns c = those_of_the_bytes
