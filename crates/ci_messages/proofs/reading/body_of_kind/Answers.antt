use Rattle.std.proofs.Common.{sym, subst}
use Rattle.ci_messages.specs.Reading.{ReadsBody}
use Rattle.ci_messages.proofs.reading.body_of_kind.Goals as goal

pub returns-in-EndpointInquiry : goal.returns-in-EndpointInquiry
returns-in-EndpointInquiry c =
    subst (λ kind. ReadsBody c.args.format kind c.args.body.now c.endpoint_inquiry.result) (sym c.in-EndpointInquiry.is)
    (c.endpoint_inquiry.ensures c.args.format)

pub returns-in-EndpointReply : goal.returns-in-EndpointReply
returns-in-EndpointReply c =
    subst (λ kind. ReadsBody c.args.format kind c.args.body.now c.endpoint_reply.result) (sym c.in-EndpointReply.is)
    (c.endpoint_reply.ensures c.args.format)

pub returns-in-Invalidate : goal.returns-in-Invalidate
returns-in-Invalidate c =
    subst (λ kind. ReadsBody c.args.format kind c.args.body.now c.invalidate.result) (sym c.in-Invalidate.is)
    (c.invalidate.ensures c.args.format)

pub returns-in-ProfileReply : goal.returns-in-ProfileReply
returns-in-ProfileReply c =
    subst (λ kind. ReadsBody c.args.format kind c.args.body.now c.profile_reply.result) (sym c.in-ProfileReply.is)
    (c.profile_reply.ensures c.args.format)
