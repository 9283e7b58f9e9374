-- What a message says by which an endpoint goes: of a stream packet, and of an exclusive.
use Rattle.std.proofs.Common.{◌≡◌, ◌<◌, ℕ, Bool, true, false, List, [], ◌∷◌, length, None, Some, refl, ap, sym, ◌∙◌, arith}
use Rattle.std.specs.Prelude.{Ok, if◌then◌else◌, IsTrue, ◌↔◌}
use Rattle.ump_grammar.specs.declared.packet.Packet.{Packet}
use Rattle.ump_grammar.specs.declared.packet.Packet.TheVariants as packets
use Rattle.system_stream.specs.declared.message.StreamMessage.{StreamMessage}
use Rattle.system_stream.specs.Layout.{IsStream, has_bad_format, message_in}
use Rattle.function_blocks.specs.InForce.{message_read}
use Rattle.ci_messages.specs.Reading.{ci_fault}
use Rattle.ci_responder.specs.Messages.{Received}
use Rattle.ci_responder.specs.Read.{received_in}
use Rattle.ump_endpoint.specs.Answers.{outcome_of_replies, said_in, said_with}
use Rattle.ump_endpoint.specs.declared.taken.Outcome.TheVariants as outcomes

-- the message of a stream packet
pub message_is : (packet : Packet) (message : StreamMessage) → IsStream packet → has_bad_format packet ≡ false → message ≡ message_in packet
    → message_read packet ≡ Some message
message_is (packets.Stream f s l w x y) message stream fine is =
    ap (λ bad. if bad then None else Some (message_in (packets.Stream f s l w x y))) fine ∙ ap Some (sym is)
message_is (packets.Utility s v) message stream fine is = absurd stream
message_is (packets.System g m) message stream fine is = absurd stream
message_is (packets.Voice1 g m) message stream fine is = absurd stream
message_is (packets.Exclusive g f b) message stream fine is = absurd stream
message_is (packets.Voice2 g m) message stream fine is = absurd stream
message_is (packets.Data8 g w) message stream fine is = absurd stream
message_is (packets.Flex g w) message stream fine is = absurd stream
message_is (packets.Reserved w) message stream fine is = absurd stream

pub outcome_is : (replies : List Packet) (some : Bool) → IsTrue some ↔ (0 < length replies)
    → (if some then outcomes.Answered else outcomes.NoAnswer) ≡ outcome_of_replies replies
outcome_is [] true same = absurd (omega (arith, same.0 refl))
outcome_is [] false same = refl
outcome_is (p ∷ ps) true same = refl
outcome_is (p ∷ ps) false same = absurd (let e : false ≡ true = same.1 (omega arith) in cc)

-- what an exclusive without a fault says
pub said_is_told : (group : ℕ) (message : List ℕ) (received : Received) → ci_fault message ≡ None → received ≡ received_in group message
    → said_in group message ≡ Ok received
said_is_told group message received fine is = ap (λ fault. said_with fault (received_in group message)) fine ∙ ap Ok (sym is)
