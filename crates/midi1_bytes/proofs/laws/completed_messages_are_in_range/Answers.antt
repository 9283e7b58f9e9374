use Rattle.midi1_bytes.proofs.Ranges.{in_range}
use Rattle.midi1_bytes.proofs.laws.completed_messages_are_in_range.Goals as goal

pub returns : goal.returns
returns c = in_range
