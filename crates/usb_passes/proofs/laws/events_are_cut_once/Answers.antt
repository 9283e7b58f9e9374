use Rattle.usb_midi1.specs.Events.{each_event}
use Rattle.usb_passes.specs.Events.{placed_at}
use Rattle.usb_passes.proofs.laws.events_are_cut_once.Goals as goal

pub returns : goal.returns
returns c = c.items_are_cut_once.ensures each_event placed_at
