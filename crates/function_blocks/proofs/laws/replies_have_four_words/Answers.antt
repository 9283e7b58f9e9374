use Rattle.function_blocks.proofs.FourLaws.{replies-four}
use Rattle.function_blocks.proofs.laws.replies_have_four_words.Goals as goal

pub returns : goal.returns
returns c = replies-four
