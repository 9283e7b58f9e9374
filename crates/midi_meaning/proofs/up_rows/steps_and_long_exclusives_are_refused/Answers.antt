use Rattle.midi_meaning.proofs.UpRows.{step_refused, exclusive_refused}
use Rattle.midi_meaning.proofs.up_rows.steps_and_long_exclusives_are_refused.Goals as goal

pub returns : goal.returns
returns c = record { increment = step_refused; too_long = exclusive_refused }
