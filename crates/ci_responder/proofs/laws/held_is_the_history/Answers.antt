use Rattle.ci_responder.proofs.Histories.{after_follows, heard_follows, muid_follows, on_follows, replies_follow, reply_follows}
use Rattle.ci_responder.proofs.laws.held_is_the_history.Goals as goal

pub returns : goal.returns
returns c = record {
  heard = heard_follows;
  reply = reply_follows;
  replies = replies_follow;
  after = λ setup room past received distinct. after_follows setup room past received distinct;
  muid = muid_follows;
  on = on_follows;
}
