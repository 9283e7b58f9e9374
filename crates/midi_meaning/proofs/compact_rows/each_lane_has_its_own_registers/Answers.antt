use Rattle.midi_meaning.proofs.CompactRows.{sets_of_two_groups_pieces}
use Rattle.midi_meaning.proofs.compact_rows.each_lane_has_its_own_registers.Goals as goal

pub returns : goal.returns
returns c = sets_of_two_groups_pieces
