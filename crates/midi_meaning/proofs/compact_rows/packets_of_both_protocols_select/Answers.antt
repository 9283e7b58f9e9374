use Rattle.midi_meaning.proofs.CompactRows.{mixed_protocols_pieces, selected_before_pieces}
use Rattle.midi_meaning.proofs.compact_rows.packets_of_both_protocols_select.Goals as goal

pub returns : goal.returns
returns c = record { other = mixed_protocols_pieces; same = selected_before_pieces }
