use Rattle.std.proofs.Common.{◌≡◌, [], ◌∷◌, ℕ, subst}
use Rattle.ci_messages.specs.declared.kind.Kind.TheVariants as kind
use Rattle.ci_messages.specs.declared.view.Address.TheVariants as address
use Rattle.ci_messages.specs.Fields.{bytes_of_fields, number}
use Rattle.ci_messages.specs.Messages.{fields_of, format_of}
use Rattle.ci_responder.specs.Replies.{message_of_payload, payload_with}
use Rattle.ci_responder.specs.Rows.{broadcast}
use Rattle.ci_responder.proofs.responder.Responder.invalidate.Goals as goal

pub returns : goal.returns
returns c =
    let P : ℕ → ℕ → ℕ → ℕ → Type 0 = λ target muid sub version. c.new.result ≡ message_of_payload
    (payload_with address.Block sub version muid broadcast
    (bytes_of_fields (fields_of (format_of version) kind.Invalidate) (number target ∷ []))) in
    let own : P c.args.owner.now.muid c.get-2.result c.sub.result c.reply_version-version.result =
    subst (λ target. P target c.get-2.result c.sub.result c.reply_version-version.result) c.get.ensures.value c.new.ensures in
    let from : P c.args.owner.now.muid c.args.owner.now.muid c.sub.result c.reply_version-version.result =
    subst (λ muid. P c.args.owner.now.muid muid c.sub.result c.reply_version-version.result) c.get-2.ensures.value own in
    let sent : P c.args.owner.now.muid c.args.owner.now.muid 0x7E c.reply_version-version.result =
    subst (λ sub. P c.args.owner.now.muid c.args.owner.now.muid sub c.reply_version-version.result) c.sub.ensures.value from in
    subst (P c.args.owner.now.muid c.args.owner.now.muid 0x7E) c.reply_version-version.ensures.value sent
