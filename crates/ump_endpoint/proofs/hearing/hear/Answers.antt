use Rattle.std.proofs.Common.{[], ap, sym, ◌∙◌, subst}
use Rattle.ump_grammar.specs.Replies.{AddsPackets}
use Rattle.ci_responder.specs.Messages.{received_of}
use Rattle.ump_endpoint.specs.Answers.{SaidOrFault}
use Rattle.ump_endpoint.specs.Held.{after_said, said_outcome_in, said_replies}
use Rattle.ump_endpoint.specs.declared.taken.Outcome.TheVariants as outcomes
use Rattle.ump_endpoint.proofs.HeardLaws.{said_is_told}
use Rattle.ump_endpoint.proofs.hearing.hear.Goals as goal

pub returns-in-Ok-clause-after : goal.returns-in-Ok-clause-after
returns-in-Ok-clause-after c =
    let said =
    said_is_told c.args.group c.args.message.now (received_of c.args.group c.in-Ok.view) c.in-Ok.ensures.0
    (c.views_tell_their_bytes.ensures c.args.group c.args.message.now c.in-Ok.view c.in-Ok.ensures.1) in
    c.hear.ensures.after ∙ ap (after_said c.args.responder.now) (sym said)

pub returns-in-Ok-clause-replies : goal.returns-in-Ok-clause-replies
returns-in-Ok-clause-replies c =
    let said =
    said_is_told c.args.group c.args.message.now (received_of c.args.group c.in-Ok.view) c.in-Ok.ensures.0
    (c.views_tell_their_bytes.ensures c.args.group c.args.message.now c.in-Ok.view c.in-Ok.ensures.1) in
    let W : SaidOrFault → Type 0 = λ s. AddsPackets (said_replies c.args.responder.now s) [] c.hear.new.replies in
    subst W (sym said) c.hear.ensures.replies

pub returns-in-Ok-clause-outcome : goal.returns-in-Ok-clause-outcome
returns-in-Ok-clause-outcome c =
    let said =
    said_is_told c.args.group c.args.message.now (received_of c.args.group c.in-Ok.view) c.in-Ok.ensures.0
    (c.views_tell_their_bytes.ensures c.args.group c.args.message.now c.in-Ok.view c.in-Ok.ensures.1) in
    ap outcomes.Heard c.hear.ensures.heard ∙ ap (said_outcome_in c.args.responder.now) (sym said)
