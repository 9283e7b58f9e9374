use Rattle.std.proofs.Common.{rules}
use Rattle.clip_pass.proofs.EndLaws.{clip_ends_as, clip_ends_keep, is_told}
use Rattle.clip_pass.proofs.clipping.run_clip.Goals as goal

pub returns-clause-ends : goal.returns-clause-ends
returns-clause-ends g c =
    let kept = clip_ends_keep _ _ c.show_clip.result c.show_clip.ensures in
    clip_ends_as _ _ c.show_clip.result _ (search rules) c.show_clip.ensures

pub returns-clause-complete : goal.returns-clause-complete
returns-clause-complete g c = (is_told c.clip_files_are_cut_once.ensures _ _ c.show_clip.result (returns-clause-ends g c)).0

pub returns-clause-refused : goal.returns-clause-refused
returns-clause-refused g c = (is_told c.clip_files_are_cut_once.ensures _ _ c.show_clip.result (returns-clause-ends g c)).1
