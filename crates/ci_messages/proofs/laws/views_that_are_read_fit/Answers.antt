use Rattle.ci_messages.proofs.ReadLaws.{read-fits}
use Rattle.ci_messages.proofs.laws.views_that_are_read_fit.Goals as goal

pub returns : goal.returns
returns c = read-fits
