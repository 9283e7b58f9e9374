-- What stands at the end of a pass says which end it is.
use Rattle.pass_loop.specs.Pass.{CutsOnce, Cutting, Ends, Seen, Work}
use Rattle.pass_loop.specs.PassEnds.{PassEnds}
use Rattle.pass_loop.specs.ForProofs.DoneLaws.{is_done_unless}
use Rattle.pass_loop.specs.ForProofs.RefusedLaws.{is_refused_where}
use Rattle.pass_loop.specs.declared.ends.RunEnd.{RunEnd}

-- if an input is cut in one way, what stands says which end it is
pub pass_ends : {Item : Type 0} (IsCut : Cutting Item) (work : Work Item) → CutsOnce IsCut → (old new : Seen) (end : RunEnd)
    → Ends IsCut work old new end → PassEnds IsCut work old new end
pass_ends IsCut work cuts old new end ends =
    record {
      ends = ends;
      complete = is_done_unless IsCut work cuts old new end ends;
      refused = is_refused_where IsCut work cuts old new end ends;
    }
