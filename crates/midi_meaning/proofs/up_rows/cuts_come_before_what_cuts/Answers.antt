use Rattle.midi_meaning.proofs.UpRows.{order_lines, open_lines}
use Rattle.midi_meaning.proofs.up_rows.cuts_come_before_what_cuts.Goals as goal

pub returns : goal.returns
returns c = record { order = order_lines; left_open = open_lines }
