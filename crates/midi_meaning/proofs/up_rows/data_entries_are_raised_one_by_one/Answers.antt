use Rattle.midi_meaning.proofs.UpRows.{entry_up, entry_back, two_up}
use Rattle.midi_meaning.proofs.up_rows.data_entries_are_raised_one_by_one.Goals as goal

pub returns : goal.returns
returns c = record { both_halves = entry_up; back = entry_back; two_parameters = two_up }
