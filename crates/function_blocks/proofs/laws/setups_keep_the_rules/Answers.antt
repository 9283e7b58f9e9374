use Rattle.function_blocks.proofs.ReadLaws.{consistent_of}
use Rattle.function_blocks.proofs.laws.setups_keep_the_rules.Goals as goal

pub returns : goal.returns
returns c = consistent_of
