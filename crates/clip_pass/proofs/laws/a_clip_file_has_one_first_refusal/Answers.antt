use Rattle.pass_loop.specs.ForProofs.FirstRefusalLaws.{one_refusal}
use Rattle.clip_pass.specs.Clipping.{clipping}
use Rattle.clip_pass.specs.Cutting.{clip_cutting}
use Rattle.clip_pass.proofs.laws.a_clip_file_has_one_first_refusal.Goals as goal

pub returns : goal.returns
returns c = one_refusal clip_cutting clipping c.clip_files_are_cut_once.ensures
