use Rattle.usb_midi1.proofs.EventLaws.{in_order}
use Rattle.usb_midi1.proofs.laws.exclusive_events_come_in_order.Goals as goal

pub returns : goal.returns
returns c = in_order
