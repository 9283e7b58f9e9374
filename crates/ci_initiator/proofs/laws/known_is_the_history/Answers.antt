use Rattle.ci_initiator.proofs.Histories.{after_follows, noted_follows}
use Rattle.ci_initiator.proofs.laws.known_is_the_history.Goals as goal

pub returns : goal.returns
returns c = record {
  noted = noted_follows;
  after = after_follows;
}
