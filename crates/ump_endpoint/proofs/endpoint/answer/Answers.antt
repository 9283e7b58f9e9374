use Rattle.std.proofs.Common.{ap, sym, ◌∙◌}
use Rattle.std.specs.Prelude.{if◌then◌else◌}
use Rattle.std.specs.Option.{option_map_or}
use Rattle.function_blocks.specs.Replies.{protocol_after, stream_replies}
use Rattle.ump_endpoint.specs.Answers.{outcome_of_replies}
use Rattle.ump_endpoint.specs.declared.taken.Outcome.TheVariants as outcomes
use Rattle.ump_endpoint.proofs.HeardLaws.{message_is, outcome_is}
use Rattle.ump_endpoint.proofs.endpoint.answer.Goals as goal

pub returns-then-answer-clause-protocol : goal.returns-then-answer-clause-protocol
returns-then-answer-clause-protocol c =
    let protocol = c.args.config.now.protocol in
    let message = message_is c.args.packet.now c.in-Ok.message c.requires.stream c.in-Ok.ensures.0 c.in-Ok.ensures.1 in
    c.answer.ensures.protocol ∙ ap (λ m. option_map_or (protocol_after c.args.setup.now protocol) m protocol) (sym message)

pub returns-then-answer-clause-outcome : goal.returns-then-answer-clause-outcome
returns-then-answer-clause-outcome c =
    let setup = c.args.setup.now in
    let protocol = c.args.config.now.protocol in
    let message = message_is c.args.packet.now c.in-Ok.message c.requires.stream c.in-Ok.ensures.0 c.in-Ok.ensures.1 in
    ap (λ some. if some then outcomes.Answered else outcomes.NoAnswer) (sym c.if-answer.true)
    ∙ outcome_is (stream_replies setup protocol c.in-Ok.message) c.answer.result c.answer.ensures.some
    ∙ ap (λ m. option_map_or (λ message. outcome_of_replies (stream_replies setup protocol message)) m outcomes.BadFormat) (sym message)

pub returns-else-answer-clause-outcome : goal.returns-else-answer-clause-outcome
returns-else-answer-clause-outcome c =
    let setup = c.args.setup.now in
    let protocol = c.args.config.now.protocol in
    let message = message_is c.args.packet.now c.in-Ok.message c.requires.stream c.in-Ok.ensures.0 c.in-Ok.ensures.1 in
    ap (λ some. if some then outcomes.Answered else outcomes.NoAnswer) (sym c.if-answer.false)
    ∙ outcome_is (stream_replies setup protocol c.in-Ok.message) c.answer.result c.answer.ensures.some
    ∙ ap (λ m. option_map_or (λ message. outcome_of_replies (stream_replies setup protocol message)) m outcomes.BadFormat) (sym message)
