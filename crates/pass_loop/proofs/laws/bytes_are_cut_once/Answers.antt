use Rattle.item_reader.specs.ByteReader.{each_byte}
use Rattle.pass_loop.specs.Bytes.{placed_at}
use Rattle.pass_loop.proofs.laws.bytes_are_cut_once.Goals as goal

pub returns : goal.returns
returns c = c.items_are_cut_once.ensures each_byte placed_at
