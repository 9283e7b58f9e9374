use Rattle.std.proofs.Common.{lit<}
use Rattle.sysex_groups.proofs.laws.cut_payload_is_joined.Goals as goal

pub returns : goal.returns
returns c = c.payload_of_any_size_is_joined.ensures 6 (lit< tt)
