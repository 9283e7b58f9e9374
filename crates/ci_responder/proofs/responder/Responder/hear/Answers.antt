use Rattle.std.proofs.Common.{◌≡◌, ◌∙◌, [], ap, sym, List, ℕ, Option, Some, None}
use Rattle.std.specs.Prelude.{unwrap_or}
use Rattle.ump_grammar.specs.Replies.{AddsPackets}
use Rattle.ci_responder.specs.Held.{reply_in}
use Rattle.ci_responder.specs.Messages.{received_of}
use Rattle.ci_responder.specs.Replies.{message_of_payload, message_of_reply, packets_of, sent}
use Rattle.ci_responder.proofs.responder.Responder.hear.Goals as goal

-- the packets of the message that a reply is
some_reply : (group : ℕ) (reply : Option (List ℕ)) (message new : List ℕ) → Some message ≡ message_of_reply reply →
    ((payload : List ℕ) → message ≡ message_of_payload payload → AddsPackets (packets_of group payload) [] new) →
    AddsPackets (sent group reply) [] new
some_reply group None message new is added = absurd (let e : Some message ≡ None = is in cc)
some_reply group (Some payload) message new is added = added payload (ap (λ o. unwrap_or o message) is)

no_reply : (group : ℕ) (reply : Option (List ℕ)) (new : List ℕ) → None ≡ message_of_reply reply → new ≡ []
    → AddsPackets (sent group reply) [] new
no_reply group None new is none = none
no_reply group (Some payload) new is none = absurd (let e : None ≡ Some (message_of_payload payload) = is in cc)

pub returns-in-Some-clause-replies : goal.returns-in-Some-clause-replies
returns-in-Some-clause-replies c =
    let reply = reply_in c.args.self.now (received_of c.args.group c.args.view.now) in
    some_reply c.args.group reply c.in-Some.message c.push_message.new.replies (sym c.in-Some.is ∙ c.hear_message-heard.ensures.reply)
    c.push_message.ensures.packets

pub returns-in_default-clause-replies : goal.returns-in_default-clause-replies
returns-in_default-clause-replies c =
    let reply = reply_in c.args.self.now (received_of c.args.group c.args.view.now) in
    no_reply c.args.group reply c.args.replies.now (sym c.in_default.is ∙ c.hear_message-heard.ensures.reply) c.requires.empty
