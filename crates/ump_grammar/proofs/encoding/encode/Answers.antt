use Rattle.std.proofs.Common.{◌∙◌, sym}
use Rattle.ump_grammar.proofs.OnePacket.{one_packet}
use Rattle.ump_grammar.specs.declared.packet.Packet.TheVariants.{Voice2}
use Rattle.ump_grammar.proofs.encoding.encode.Goals as goal

pub returns-in-Voice2-clause-only : goal.returns-in-Voice2-clause-only
returns-in-Voice2-clause-only c =
    let arm = c.in-Voice2 in
    λ other s. one_packet other (Voice2 arm.group arm.message) c.voice2.result s c.voice2.ensures.spelled ∙ sym arm.is
