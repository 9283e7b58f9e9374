use Rattle.midi_meaning.proofs.Rooms.{opened_in_room, ended_in_room}
use Rattle.midi_meaning.proofs.laws.rooms_that_are_not_passed_do_not_matter.Goals as goal

pub returns : goal.returns
returns c = record { opened = opened_in_room; ended = ended_in_room }
