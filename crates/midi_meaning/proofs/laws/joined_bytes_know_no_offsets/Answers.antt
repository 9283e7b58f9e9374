use Rattle.midi_meaning.proofs.Joined.{joined_without_offsets}
use Rattle.midi_meaning.proofs.laws.joined_bytes_know_no_offsets.Goals as goal

pub returns : goal.returns
returns c = joined_without_offsets
