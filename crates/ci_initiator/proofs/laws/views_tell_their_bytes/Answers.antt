use Rattle.ci_initiator.proofs.IncomingLaws.{told_by_bytes}
use Rattle.ci_initiator.proofs.laws.views_tell_their_bytes.Goals as goal

pub returns : goal.returns
returns c = told_by_bytes
