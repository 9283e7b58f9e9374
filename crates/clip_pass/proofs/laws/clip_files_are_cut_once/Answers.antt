use Rattle.ump_words.specs.declared.words.Order.TheVariants.{Big}
use Rattle.clip_pass.proofs.HeaderLaws.{clips_once}
use Rattle.clip_pass.proofs.laws.clip_files_are_cut_once.Goals as goal

pub returns : goal.returns
returns c = clips_once (c.packets_are_cut_once.ensures Big 8)
