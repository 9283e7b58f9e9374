use Rattle.midi_meaning.proofs.UpRows.{cuts_up, cut_lines}
use Rattle.midi_meaning.proofs.up_rows.strays_and_cuts_are_listed.Goals as goal

pub returns : goal.returns
returns c = record { packets = cuts_up; listing = cut_lines }
