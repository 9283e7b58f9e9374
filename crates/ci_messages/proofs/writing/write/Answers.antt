use Rattle.std.proofs.Common.{◌≡◌, rules, subst}
use Rattle.ci_messages.specs.Reading.{Reads}
use Rattle.ci_messages.specs.Writing.{message_bytes}
use Rattle.ci_messages.proofs.writing.write.Goals as goal

pub returns-clause-read_again : goal.returns-clause-read_again
returns-clause-read_again c allowed answer reads =
    let bytes : c.push-3.new.self ≡ message_bytes c.args.view.now = search rules in
    c.written_messages_are_read_again.ensures.again c.args.view.now c.requires.view c.requires.fits allowed answer
    (subst (λ bytes. Reads bytes answer) bytes reads)
