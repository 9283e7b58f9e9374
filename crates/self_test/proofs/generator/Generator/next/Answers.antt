use Rattle.std.proofs.Common.{◌∙◌}
use Rattle.ump_grammar.specs.declared.packet.Packet.TheVariants as packet
use Rattle.self_test.proofs.GeneratorLaws.{message_is}
use Rattle.self_test.proofs.generator.Generator.next.Goals as goal

pub returns-clause-packet : goal.returns-clause-packet
returns-clause-packet c = λ seed count given.
    (λ i. packet.Voice2 (c.low_bits.ensures i) (c.message.ensures.message i))
    ∙ message_is seed count c.draws-draws.result (c.draws-draws.ensures.drawn seed count given)
