use Rattle.midi_meaning.proofs.ByteRooms.{step_in_room, open_in_room, packets_in_room, pieces_in_room}
use Rattle.midi_meaning.proofs.ByteRooms.{lines_in_room, lines_to_end_in_room, accepted_within}
use Rattle.midi_meaning.proofs.up_laws.rooms_that_are_not_reached_do_not_matter_in_bytes.Goals as goal

pub returns : goal.returns
returns c = λ paired. record {
  step = step_in_room;
  left_open = open_in_room;
  packets = packets_in_room paired;
  pieces = pieces_in_room paired;
  lines = lines_in_room paired;
  lines_to_end = lines_to_end_in_room paired;
  accepted = accepted_within;
}
