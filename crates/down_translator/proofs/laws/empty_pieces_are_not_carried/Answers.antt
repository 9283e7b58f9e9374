use Rattle.down_translator.specs.Held.{paired_of}
use Rattle.down_translator.proofs.RecordingLaws.{step-carried, step-lane}
use Rattle.down_translator.proofs.laws.empty_pieces_are_not_carried.Goals as goal

pub returns : goal.returns
returns c =
    let pieces = c.carried_packets_have_a_piece.ensures in
    record {
      carried = λ state. step-carried state (pieces (paired_of state));
      lane = λ state. step-lane state (pieces (paired_of state));
    }
