use Rattle.std.proofs.Common.{◌<◌, ◌∙◌, [], List, ℕ, sym, subst}
use Rattle.std.specs.List.{All}
use Rattle.ump_grammar.specs.Replies.{AddsPackets}
use Rattle.ci_messages.specs.Reading.{IsExclusive}
use Rattle.ci_responder.specs.Replies.{packets_of}
use Rattle.ci_responder.proofs.ListLaws.{between}
use Rattle.ci_responder.proofs.packets.push_message.Goals as goal

pub push_payload-requires-clause-bytes : goal.push_payload-requires-clause-bytes
push_payload-requires-clause-bytes c =
    let message = c.as_slice-bytes.result.now in
    let is : IsExclusive message = c.as_slice-bytes.ensures.message.0 in
    let Q : List ℕ → Type 0 = All (λ b. b < 128) in
    subst Q (sym (between is.0 message 0xF0 0xF7 is.1)) is.2

pub returns-clause-packets : goal.returns-clause-packets
returns-clause-packets c = λ payload is.
    let P : List ℕ → Type 0 = λ bytes. AddsPackets (packets_of c.args.group bytes) [] c.push_payload.new.replies in
    subst P (between payload c.as_slice-bytes.result.now 0xF0 0xF7 (c.as_slice-bytes.ensures.value ∙ is)) c.push_payload.ensures.packets
