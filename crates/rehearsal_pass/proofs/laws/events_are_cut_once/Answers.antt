use Rattle.rehearsal_pass.specs.EventBytes.{each_event}
use Rattle.rehearsal_pass.specs.Events.{placed_at}
use Rattle.rehearsal_pass.proofs.laws.events_are_cut_once.Goals as goal

pub returns : goal.returns
returns c = c.items_are_cut_once.ensures each_event placed_at
