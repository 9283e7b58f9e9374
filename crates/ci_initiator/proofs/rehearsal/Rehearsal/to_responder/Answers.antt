use Rattle.std.proofs.Common.{◌≡◌, subst, slice_get}
use Rattle.std.specs.Prelude.{Ok}
use Rattle.ci_responder.specs.Held.{reply_in}
use Rattle.ci_responder.specs.Read.{received_in}
use Rattle.ci_initiator.specs.declared.event.Told.TheVariants as told
use Rattle.ci_initiator.specs.Stage.{Stage, reply_with}
use Rattle.ci_initiator.proofs.StageLaws.{replied}
use Rattle.ci_initiator.proofs.rehearsal.Rehearsal.to_responder.Goals as goal

pub returns : goal.returns
returns c =
    let stage : Stage = record {
      initiator = c.self.inside.initiator;
      responder = c.self.inside.responder;
      asks = c.self.inside.asks;
      replies = c.self.inside.replies;
    } in
    let after : Stage = record {
      initiator = c.self.inside.initiator;
      responder = c.respond-heard.new.responder;
      asks = c.self.inside.asks;
      replies = c.keep_reply.new.replies;
    } in
    let sent = c.in-Some.sent.now in
    let P : Stage → Type 0 = λ s. reply_with s (slice_get s.asks c.args.number) ≡ Ok (told.Heard c.respond-heard.result.0, after) in
    subst P c.self.view_is
    (replied stage c.args.number sent c.is_full.result c.respond-heard.result.0 c.respond-heard.new.responder c.keep_reply.new.replies
    c.in-Some.ensures
    c.is_full.ensures c.if-is_full.false c.respond-heard.ensures.heard c.respond-heard.ensures.after
    (c.keep_reply.ensures (reply_in stage.responder (received_in sent.group sent.bytes)) c.respond-heard.ensures.reply))
