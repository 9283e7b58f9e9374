use Rattle.std.proofs.Common.{◌≡◌, ◌∙◌, ap}
use Rattle.ci_responder.specs.Held.{after as responder_after, heard_in, message_in}
use Rattle.ci_responder.specs.Messages.{received_of}
use Rattle.ci_responder.specs.Read.{received_in}
use Rattle.ci_initiator.proofs.rehearsal.respond.Goals as goal

pub returns-clause-heard : goal.returns-clause-heard
returns-clause-heard c =
    let told : received_of c.args.sent.now.group c.in-Ok.view ≡ received_in c.args.sent.now.group c.args.sent.now.bytes =
    c.views_tell_their_bytes.ensures c.args.sent.now.group c.as_slice.result.now c.in-Ok.view c.in-Ok.ensures.1
    ∙ ap (received_in c.args.sent.now.group) c.as_slice.ensures.value in
    c.hear_message.ensures.heard ∙ ap (heard_in c.args.responder.now) told

pub returns-clause-after : goal.returns-clause-after
returns-clause-after c =
    let told : received_of c.args.sent.now.group c.in-Ok.view ≡ received_in c.args.sent.now.group c.args.sent.now.bytes =
    c.views_tell_their_bytes.ensures c.args.sent.now.group c.as_slice.result.now c.in-Ok.view c.in-Ok.ensures.1
    ∙ ap (received_in c.args.sent.now.group) c.as_slice.ensures.value in
    c.hear_message.ensures.after ∙ ap (responder_after c.args.responder.now) told

pub returns-clause-reply : goal.returns-clause-reply
returns-clause-reply c =
    let told : received_of c.args.sent.now.group c.in-Ok.view ≡ received_in c.args.sent.now.group c.args.sent.now.bytes =
    c.views_tell_their_bytes.ensures c.args.sent.now.group c.as_slice.result.now c.in-Ok.view c.in-Ok.ensures.1
    ∙ ap (received_in c.args.sent.now.group) c.as_slice.ensures.value in
    c.hear_message.ensures.reply ∙ ap (message_in c.args.responder.now) told
