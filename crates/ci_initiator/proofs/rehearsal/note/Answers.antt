use Rattle.std.proofs.Common.{◌≡◌, ◌∙◌, ap}
use Rattle.ci_initiator.specs.Incoming.{incoming_in, incoming_of}
use Rattle.ci_initiator.specs.Known.{after, noted_in}
use Rattle.ci_initiator.proofs.rehearsal.note.Goals as goal

pub returns-clause-noted : goal.returns-clause-noted
returns-clause-noted c =
    let told : incoming_of c.args.sent.now.group c.in-Ok.view ≡ incoming_in c.args.sent.now.group c.args.sent.now.bytes =
    c.views_tell_their_bytes.ensures c.args.sent.now.group c.as_slice.result.now c.in-Ok.view c.in-Ok.ensures.1
    ∙ ap (incoming_in c.args.sent.now.group) c.as_slice.ensures.value in
    c.hear.ensures.noted ∙ ap (noted_in c.args.initiator.now) told

pub returns-clause-after : goal.returns-clause-after
returns-clause-after c =
    let told : incoming_of c.args.sent.now.group c.in-Ok.view ≡ incoming_in c.args.sent.now.group c.args.sent.now.bytes =
    c.views_tell_their_bytes.ensures c.args.sent.now.group c.as_slice.result.now c.in-Ok.view c.in-Ok.ensures.1
    ∙ ap (incoming_in c.args.sent.now.group) c.as_slice.ensures.value in
    c.hear.ensures.after ∙ ap (after c.args.initiator.now) told
