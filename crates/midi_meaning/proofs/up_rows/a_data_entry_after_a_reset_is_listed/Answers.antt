use Rattle.midi_meaning.proofs.UpRows.{reset_up, reset_lines}
use Rattle.midi_meaning.proofs.up_rows.a_data_entry_after_a_reset_is_listed.Goals as goal

pub returns : goal.returns
returns c = record { packets = reset_up; listing = reset_lines }
