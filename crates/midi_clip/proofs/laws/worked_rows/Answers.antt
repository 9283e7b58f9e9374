use Rattle.std.proofs.Common.{refl}
use Rattle.midi_clip.proofs.laws.worked_rows.Goals as goal

pub returns : goal.returns
returns c = record { one = refl; one_end = refl; more = refl; more_end = refl; none = refl; not_ended = refl; not_started = refl }
