use Rattle.midi_meaning.proofs.UpRows.{exclusive_up, exclusive_back}
use Rattle.midi_meaning.proofs.up_rows.an_exclusive_is_cut_and_comes_back.Goals as goal

pub returns : goal.returns
returns c = record { packets = exclusive_up; back = exclusive_back }
