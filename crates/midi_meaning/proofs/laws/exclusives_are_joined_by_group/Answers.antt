use Rattle.midi_meaning.proofs.Rows.{joined_by_group}
use Rattle.midi_meaning.proofs.laws.exclusives_are_joined_by_group.Goals as goal

pub returns : goal.returns
returns c = joined_by_group
