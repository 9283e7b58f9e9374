use Rattle.down_translator.proofs.RecordingLaws.{step-pair, step-line}
use Rattle.down_translator.proofs.RecordingRooms.{accepted-within, line-without_room}
use Rattle.down_translator.proofs.laws.one_more_accepted_packet_adds_its_pair_and_line.Goals as goal

pub returns : goal.returns
returns c = λ paired.
    let fed = c.fed_parts_are_the_definition.ensures in
    let rooms = c.rooms_that_are_not_passed_do_not_matter.ensures in
    record {
      pair =
          step-pair paired fed rooms c.joined_bytes_know_no_offsets.ensures (c.carried_packets_have_a_piece.ensures paired)
          (c.kept_lanes_are_those_of_the_recording.ensures paired) c.statuses_that_run_can_be_left_out.ensures;
      line = step-line paired fed;
      without_room = λ room past placed least a b. line-without_room paired rooms room past placed (accepted-within room past least a b);
    }
