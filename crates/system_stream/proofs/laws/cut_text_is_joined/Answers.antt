use Rattle.system_stream.proofs.CutLaws.{cut-joined}
use Rattle.system_stream.proofs.laws.cut_text_is_joined.Goals as goal

pub returns : goal.returns
returns c = cut-joined
