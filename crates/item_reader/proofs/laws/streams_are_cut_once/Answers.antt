use Rattle.item_reader.proofs.CutLaws.{cuts_streams}
use Rattle.item_reader.proofs.laws.streams_are_cut_once.Goals as goal

pub returns : goal.returns
returns g c = λ how. cuts_streams (g.H.Cut.asked how) (g.met.H.Cut.lengths how)
