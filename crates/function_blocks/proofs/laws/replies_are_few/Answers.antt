use Rattle.function_blocks.proofs.FewLaws.{replies-few}
use Rattle.function_blocks.proofs.laws.replies_are_few.Goals as goal

pub returns : goal.returns
returns c = replies-few
