use Rattle.ci_messages.proofs.WrittenLaws.{written-again, written-is_exclusive}
use Rattle.ci_messages.proofs.laws.written_messages_are_read_again.Goals as goal

pub returns-clause-exclusive : goal.returns-clause-exclusive
returns-clause-exclusive c = written-is_exclusive

pub returns-clause-again : goal.returns-clause-again
returns-clause-again c view is small allowed answer reads =
    written-again c.messages_spell_one_view.ensures view is allowed answer reads
