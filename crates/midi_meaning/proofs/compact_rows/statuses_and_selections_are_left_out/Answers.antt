use Rattle.midi_meaning.proofs.CompactRows.{notes_and_sets_pieces}
use Rattle.midi_meaning.proofs.compact_rows.statuses_and_selections_are_left_out.Goals as goal

pub returns : goal.returns
returns c = notes_and_sets_pieces
