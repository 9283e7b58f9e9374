use Rattle.std.proofs.Common.{[], ◌∷◌, subst}
use Rattle.ump_grammar.specs.Reading.{Encodes}
use Rattle.encoded_packets.specs.declared.direct_message.DirectMessage.{DirectMessage}
use Rattle.up_translator.specs.DirectWords.{packet_of}
use Rattle.up_translator.proofs.WordLaws.{words_encode}
use Rattle.up_translator.proofs.direct_words.DirectWords.pair.Goals as goal

pub returns : goal.returns
returns c =
    let words = c.self.inside in
    subst (λ (m : DirectMessage). Encodes (packet_of m) (words.first ∷ words.value ∷ [])) c.self.view_is
    (words_encode words.first words.value c.self.invariant.0 c.self.invariant.1 c.self.invariant.2)
