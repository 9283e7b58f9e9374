-- What a pass promises of its end.
use Rattle.pass_loop.specs.Pass.{Cutting, Ends, IsDoneUnless, Seen, Work}
use Rattle.pass_loop.specs.Refused.{IsRefusedWhere}
use Rattle.pass_loop.specs.declared.ends.RunEnd.{RunEnd}

-- What stands at the end; and if no count of faults rises, which end it is: done if nothing is refused, and else the first refusal.
pub record PassEnds {Item : Type 0} (IsCut : Cutting Item) (work : Work Item) (old new : Seen) (end : RunEnd) : Type 0 where
  pub ends : Ends IsCut work old new end
  pub complete : IsDoneUnless IsCut work old new end
  pub refused : IsRefusedWhere IsCut work old new end
