-- What a view tells is what its bytes tell.
use Rattle.std.proofs.Common.{◌≡◌, ◌∙◌, ◌+◌, ◌*◌, add-zero, ap, sym, refl, subst, ℕ, true, false, List, unwrap_or}
use Rattle.ci_messages.specs.declared.kind.Format.{Format}
use Rattle.ci_messages.specs.declared.kind.Kind.{Kind}
use Rattle.ci_messages.specs.declared.view.Address.TheVariants as address
use Rattle.ci_messages.specs.declared.view.Body.{Body}
use Rattle.ci_messages.specs.declared.view.Body.TheVariants as body
use Rattle.ci_messages.specs.declared.view.CiView.{CiView}
use Rattle.ci_messages.specs.Fields.{HasFields}
use Rattle.ci_messages.specs.Messages.{body_kind, fields_of, values_of}
use Rattle.ci_messages.specs.Positions.{byte_at, number2_at}
use Rattle.ci_messages.specs.Reading.{CiSpells, address_of, body_of, message_format, message_kind}
use Rattle.ci_initiator.specs.Incoming.{ids_from, invalidate, inventory, report, said_by, said_in, incoming_in, incoming_of}

said-of : (form : Format) (b : Body) (bytes : List ℕ) → HasFields (fields_of form (body_kind b)) (values_of b) bytes 0 →
    said_in b ≡ said_by (body_kind b) bytes
said-of form (body.DiscoveryReply manufacturer family model revision category size path block) bytes has = refl
said-of form (body.Invalidate target) bytes has = ap invalidate has.0
said-of form (body.EnabledReport id channels) bytes has = ap (λ ids. report ids true) has.0
said-of form (body.DisabledReport id channels) bytes has = ap (λ ids. report ids false) has.0
said-of form (body.ProfileReply on off) bytes has =
    let second : off.now ≡ ids_from bytes (2 + 5 * number2_at bytes 0) =
    has.1.0 ∙ ap (ids_from bytes) (add-zero (2 + 5 * number2_at bytes 0)) in
    (λ j. inventory (has.0 j) (second j))
said-of form (body.Discovery manufacturer family model revision category size path) bytes has = refl
said-of form (body.EndpointInquiry status) bytes has = refl
said-of form (body.SetOn id channels) bytes has = refl
said-of form (body.SetOff id) bytes has = refl
said-of form (body.EndpointReply status text) bytes has = refl
said-of form (body.Nak original code value details text) bytes has = refl
said-of form body.ProfileInquiry bytes has = refl
said-of form (body.Property lent) bytes has = refl
said-of form (body.Other lent) bytes has = refl

said-by : (form : Format) (b : Body) (kind : Kind) (bytes : List ℕ) → body_kind b ≡ kind →
    HasFields (fields_of form kind) (values_of b) bytes 0 → said_in b ≡ said_by kind bytes
said-by form b kind bytes same has =
    let P : Kind → Type 0 = λ k. HasFields (fields_of form k) (values_of b) bytes 0 in
    said-of form b bytes (subst P (sym same) has) ∙ ap (λ k. said_by k bytes) same

pub told_by_bytes : (group : ℕ) (message : List ℕ) (view : CiView) → CiSpells view message
    → incoming_of group view ≡ incoming_in group message
told_by_bytes group message view spells =
    let address : view.address ≡ unwrap_or (address_of (byte_at message 2)) address.Block =
    sym (ap (λ o. unwrap_or o address.Block) spells.address) in
    let said : said_in view.body ≡ said_by (message_kind message) (body_of message) =
    said-by (message_format message) view.body (message_kind message) (body_of message) spells.body.same_kind spells.body.fields in
    (λ j. record {
      group = group;
      address = address j;
      source = spells.source j;
      destination = spells.destination j;
      said = said j;
    })
