use Rattle.std.proofs.Common.{◌≡◌, sym, subst, ap, ◌∙◌, None, Some}
use Rattle.packet_words.specs.Words.{IsWhole}
use Rattle.ump_grammar.specs.Reason.{reason}
use Rattle.ump_grammar.specs.Spelling.{Spells}
use Rattle.encoded_packets.proofs.EncodedLaws.{is_fine, is_whole, the_one}
use Rattle.encoded_packets.proofs.encoded.EncodedPacket.decode.Goals as goal

pub decode-requires : goal.decode-requires
decode-requires c = subst IsWhole (sym c.copied.ensures) (is_whole c.self.inside.words c.self.inside.packet)

pub unreachable-requires : goal.unreachable-requires
unreachable-requires c =
    let fine : reason c.copied.result ≡ None = ap reason c.copied.ensures ∙ is_fine c.self.inside.words c.self.inside.packet in
    let refused = c.in-Err.ensures.answer in
    let both : None ≡ Some c.in-Err.field-0 = sym fine ∙ refused in
    cc

pub returns-clause-value : goal.returns-clause-value
returns-clause-value c =
    let spelled = subst (Spells c.in-Ok.packet) c.copied.ensures c.in-Ok.ensures.answer.1 in
    sym (the_one c.self.inside.words c.self.inside.packet c.in-Ok.packet spelled) ∙ c.self.view_is
