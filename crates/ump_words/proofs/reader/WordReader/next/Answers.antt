use Rattle.item_reader.specs.Reading.{cursor}
use Rattle.ump_words.proofs.Whole.{whole_given}
use Rattle.ump_words.proofs.reader.WordReader.next.Goals as goal

pub returns-clause-whole : goal.returns-clause-whole
returns-clause-whole g c =
    whole_given _ _ (cursor c.self.inside.packets (g.S.Source.left c.args.src.now))
    (cursor c.next.new.self (g.S.Source.left c.next.new.src)) c.next.result c.next.ensures.answer c.next.ensures.again
