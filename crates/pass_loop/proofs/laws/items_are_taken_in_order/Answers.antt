use Rattle.pass_loop.proofs.ItemLaws.{taken_in_order}
use Rattle.pass_loop.proofs.laws.items_are_taken_in_order.Goals as goal

pub returns : goal.returns
returns g c = λ item_of. taken_in_order g.H.Cut.asked item_of (c.items_are_read_in_order.ensures item_of)
