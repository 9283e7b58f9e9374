use Rattle.sysex_groups.proofs.CutLaws.{cut-joined}
use Rattle.sysex_groups.proofs.laws.payload_of_any_size_is_joined.Goals as goal

pub returns : goal.returns
returns c = cut-joined
