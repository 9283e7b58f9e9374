use Rattle.std.proofs.Common.{◌≡◌, ◌&&◌, ap, subst, sym, ◌∙◌}
use Rattle.std.specs.Prelude.{◌==◌}
use Rattle.ump_grammar.specs.WordFields.{opcode_of, type_of}
use Rattle.ump_grammar.specs.Spelling.{Spells}
use Rattle.encoded_packets.specs.DirectMessages.{is_direct_opcode}
use Rattle.encoded_packets.specs.Encoded.{ThePacket}
use Rattle.encoded_packets.specs.Parts.{is_low_part}
use Rattle.encoded_packets.proofs.EncodedLaws.{fits_by, spelled_by}
use Rattle.encoded_packets.proofs.RowLaws.{spelled, the_packet}
use Rattle.encoded_packets.proofs.encoded.packet_of.Goals as goal

pub invariant_of-result : goal.invariant_of-result
invariant_of-result c =
    let packet : ThePacket c.args.words.now =
    the_packet c.args.words.now c.requires.whole c.requires.fine c.words_spell_one_packet.ensures in
    let asked : c.args.has_direct_kind ≡ (type_of c.copied.result == 4 && is_direct_opcode (opcode_of c.copied.result)) =
    c.requires.asked ∙ ap (λ words. type_of words == 4 && is_direct_opcode (opcode_of words)) (sym c.copied.ensures) in
    let part : c.args.is_part ≡ is_low_part c.copied.result = c.requires.part_asked ∙ ap is_low_part (sym c.copied.ensures) in
    (subst ThePacket (sym c.copied.ensures) packet, (asked, (part, tt)))

pub returns-clause-answer : goal.returns-clause-answer
returns-clause-answer c =
    let packet : ThePacket c.args.words.now =
    the_packet c.args.words.now c.requires.whole c.requires.fine c.words_spell_one_packet.ensures in (
      c.requires.fine,
      spelled_by c.copied.result c.args.words.now c.result-1.given.0 packet.0 c.copied.ensures (spelled c.args.words.now packet),
    )

pub returns-clause-fits : goal.returns-clause-fits
returns-clause-fits c =
    let packet : ThePacket c.args.words.now =
    the_packet c.args.words.now c.requires.whole c.requires.fine c.words_spell_one_packet.ensures in
    let spells : Spells packet.0 c.args.words.now = spelled c.args.words.now packet in
    fits_by c.copied.result c.args.words.now c.result-1.given.0 packet.0 c.copied.ensures spells
    (c.spelled_packets_fit.ensures packet.0 c.args.words.now spells c.requires.fine)
