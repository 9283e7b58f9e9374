use Rattle.midi_meaning.proofs.CompactRows.{program_twice_pieces, programs_of_two_banks_pieces}
use Rattle.midi_meaning.proofs.compact_rows.banks_are_left_out.Goals as goal

pub returns : goal.returns
returns c = record { same = program_twice_pieces; other = programs_of_two_banks_pieces }
