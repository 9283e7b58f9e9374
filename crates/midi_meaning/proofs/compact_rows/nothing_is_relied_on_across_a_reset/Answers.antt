use Rattle.midi_meaning.proofs.CompactRows.{notes_across_a_reset_pieces, sets_across_a_reset_pieces}
use Rattle.midi_meaning.proofs.compact_rows.nothing_is_relied_on_across_a_reset.Goals as goal

pub returns : goal.returns
returns c = record { notes = notes_across_a_reset_pieces; sets = sets_across_a_reset_pieces }
