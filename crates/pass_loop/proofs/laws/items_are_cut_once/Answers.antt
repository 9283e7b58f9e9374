use Rattle.pass_loop.proofs.CutLaws.{items_once}
use Rattle.pass_loop.proofs.laws.items_are_cut_once.Goals as goal

pub returns : goal.returns
returns g c = λ how item_of. items_once (g.H.Cut.asked how) item_of (c.streams_are_cut_once.ensures how)
