use Rattle.std.proofs.Common.{List, ℕ, ap, subst, sym, ◌∙◌}
use Rattle.ump_grammar.specs.Reason.{reason}
use Rattle.ump_grammar.specs.Spelling.{Spells}
use Rattle.encoded_packets.specs.Encoded.{ThePacket}
use Rattle.encoded_packets.proofs.EncodedLaws.{is_fine}
use Rattle.encoded_packets.proofs.RowLaws.{spelled}
use Rattle.encoded_packets.proofs.encoded.EncodedPacket.words.Goals as goal

pub returns : goal.returns
returns c =
    let words : List ℕ = c.self.inside.words in
    let t : ThePacket words = c.self.inside.packet in
    let same = c.as_slice.ensures.words in
    let spells : Spells c.args.self.now words = subst (λ p. Spells p words) c.self.view_is (spelled words t) in (
      ap reason same ∙ is_fine words t,
      subst (Spells c.args.self.now) (sym same) spells,
    )
