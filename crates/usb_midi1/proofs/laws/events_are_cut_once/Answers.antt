use Rattle.usb_midi1.specs.Events.{each_event}
use Rattle.usb_midi1.proofs.laws.events_are_cut_once.Goals as goal

pub returns : goal.returns
returns c = c.streams_are_cut_once.ensures each_event
