use Rattle.midi_meaning.proofs.LaneStates.{lane_after_packet, new_lane-is, piece_by_lane}
use Rattle.midi_meaning.proofs.style_laws.kept_lanes_are_those_of_the_bytes.Goals as goal

pub returns : goal.returns
returns c = λ paired. record {
  new = new_lane-is paired;
  piece = piece_by_lane paired c.running_status_is_that_of_the_messages.ensures;
  after = lane_after_packet paired c.running_status_is_that_of_the_messages.ensures c.statuses_that_run_can_be_left_out.ensures;
}
