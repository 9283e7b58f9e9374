use Rattle.std.proofs.Common.{sym, ◌∙◌}
use Rattle.packet_input.specs.Packets.{framed_behind}
use Rattle.packet_input.proofs.FoundLaws.{stops_as}
use Rattle.packet_input.proofs.more.more_words.Goals as goal

pub returns-in-Some-clause-answer : goal.returns-in-Some-clause-answer
returns-in-Some-clause-answer g c =
    stops_as (c.items_are_read_in_order.ensures (framed_behind 0)) c.args.words.now c.more.new.self (g.S.Source.left c.args.input.now)
    (g.S.Source.left c.more.new.src) c.in-Err.stop c.in-Err.ensures.answer _ (sym c.refusal_of.ensures ∙ c.in-Some.is)

pub returns-in-None-clause-answer : goal.returns-in-None-clause-answer
returns-in-None-clause-answer g c =
    stops_as (c.items_are_read_in_order.ensures (framed_behind 0)) c.args.words.now c.more.new.self (g.S.Source.left c.args.input.now)
    (g.S.Source.left c.more.new.src) c.in-Err.stop c.in-Err.ensures.answer _ (sym c.refusal_of.ensures ∙ c.in-None.is)
