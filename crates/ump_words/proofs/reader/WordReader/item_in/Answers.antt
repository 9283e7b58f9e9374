use Rattle.ump_words.proofs.Whole.{whole_held}
use Rattle.ump_words.proofs.reader.WordReader.item_in.Goals as goal

pub returns-clause-whole : goal.returns-clause-whole
returns-clause-whole c = whole_held _ c.args.at c.self.inside.packets c.item_in.result c.item_in.ensures
