use Rattle.ump_words.specs.Cut.{framed_at}
use Rattle.ump_words.proofs.packets_are_read_in_order.Goals as goal

pub returns : goal.returns
returns c = c.items_are_read_in_order.ensures framed_at
