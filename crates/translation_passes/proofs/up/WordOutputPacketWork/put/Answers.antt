use Rattle.std.proofs.Common.{List, ℕ, sym, subst}
use Rattle.ump_grammar.specs.Reading.{Encodes}
use Rattle.translation_passes.proofs.WrittenLaws.{words_carry_out}
use Rattle.translation_passes.proofs.up.WordOutputPacketWork.put.Goals as goal

pub returns-in-Some : goal.returns-in-Some
returns-in-Some g c =
    words_carry_out c.args.self.now c.args.self.now.order c.args.packet.now c.in-Some.pair c.in-Some.ensures.1 _ _ c.put_encoded.result
    c.put_encoded.ensures

pub returns-in-None : goal.returns-in-None
returns-in-None g c =
    let words : List ℕ = c.as_slice.result.now in
    let E : List ℕ → Type 0 = λ ws. Encodes c.args.packet.now ws in
    words_carry_out c.args.self.now c.args.self.now.order c.args.packet.now words
    (subst E (sym c.as_slice.ensures.words) c.words-words.ensures) _ _ c.put_encoded-in-None.result c.put_encoded-in-None.ensures
