use Rattle.item_reader.proofs.SoFarLaws.{in_order}
use Rattle.item_reader.proofs.laws.items_are_read_in_order.Goals as goal

pub returns : goal.returns
returns g c = λ item_of. in_order g.H.Cut.asked g.met.H.Cut.lengths item_of
