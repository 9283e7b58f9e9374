use Rattle.midi_meaning.proofs.CompactRows.{notes_around_a_clock_and_an_exclusive_pieces}
use Rattle.midi_meaning.proofs.compact_rows.a_clock_leaves_the_running_status.Goals as goal

pub returns : goal.returns
returns c = notes_around_a_clock_and_an_exclusive_pieces
