use Rattle.ci_responder.proofs.ReceivedLaws.{told_by_bytes}
use Rattle.ci_responder.proofs.laws.views_tell_their_bytes.Goals as goal

pub returns : goal.returns
returns c = told_by_bytes
