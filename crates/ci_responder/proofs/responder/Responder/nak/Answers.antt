use Rattle.std.proofs.Common.{◌≡◌, [], ◌∷◌, ◌++◌, List, ℕ, replicate, subst}
use Rattle.ci_messages.specs.declared.kind.Format.{Format}
use Rattle.ci_messages.specs.Fields.{bytes, bytes_of_field, bytes_of_fields, counted, list, number}
use Rattle.ci_messages.specs.Messages.{format_of, full_only, nak_byte_in}
use Rattle.ci_responder.specs.Replies.{message_of_payload, payload_with}
use Rattle.ci_responder.proofs.responder.Responder.nak.Goals as goal

-- what follows the sub-id of the message that it answers
abbrev zeros : Format → List ℕ
zeros form =
    bytes_of_fields
    (nak_byte_in form ∷ nak_byte_in form ∷ full_only form (bytes 5) (list (replicate 5 0)) ∷ full_only form (counted 1) (list []) ∷ [])
    (number 0 ∷ number 0 ∷ list (replicate 5 0) ∷ list [] ∷ [])

pub returns : goal.returns
returns c =
    let view = c.args.view.now in
    let P : ℕ → ℕ → ℕ → List ℕ → Type 0 = λ muid sub version first. c.new.result ≡ message_of_payload
    (payload_with view.address sub version muid view.source (first ++ zeros (format_of version))) in
    let told : List ℕ = bytes_of_field (nak_byte_in (format_of c.reply_version-version.result)) (number c.placed-original.result) in
    let own : P c.args.owner.now.muid c.sub.result c.reply_version-version.result told =
    subst (λ muid. P muid c.sub.result c.reply_version-version.result told) c.get.ensures.value c.new.ensures in
    let nak : P c.args.owner.now.muid 0x7F c.reply_version-version.result told =
    subst (λ sub. P c.args.owner.now.muid sub c.reply_version-version.result told) c.sub.ensures.value own in
    let received : P c.args.owner.now.muid 0x7F c.reply_version-version.result
    (bytes_of_field (nak_byte_in (format_of c.reply_version-version.result)) (number view.sub)) =
    subst (P c.args.owner.now.muid 0x7F c.reply_version-version.result) c.placed-original.ensures.bytes nak in
    subst (λ version. P c.args.owner.now.muid 0x7F version (bytes_of_field (nak_byte_in (format_of version)) (number view.sub)))
    c.reply_version-version.ensures.value received
