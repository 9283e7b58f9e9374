use Rattle.down_translator.proofs.RecordingLaws.{steps-styled, steps-translation}
use Rattle.down_translator.proofs.laws.answers_mean_the_packets.Goals as goal

pub returns : goal.returns
returns c =
    let behind = c.answers_are_the_translation.ensures.pairs in
    record {
      pairs = λ paired. steps-styled paired (behind paired);
      translation = λ paired. steps-translation paired (c.styled_pairs_are_a_translation.ensures paired) (behind paired);
    }
