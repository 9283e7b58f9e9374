use Rattle.midi_meaning.proofs.LaneStates.{lane_of_recording, piece_of_recording}
use Rattle.midi_meaning.proofs.style_laws.kept_lanes_are_those_of_the_recording.Goals as goal

pub returns : goal.returns
returns c = λ paired. record {
  lane =
      lane_of_recording paired c.running_status_is_that_of_the_messages.ensures c.statuses_that_run_can_be_left_out.ensures
      c.written_messages_are_read_again.ensures;
  piece =
      piece_of_recording paired c.running_status_is_that_of_the_messages.ensures c.statuses_that_run_can_be_left_out.ensures
      c.written_messages_are_read_again.ensures;
}
