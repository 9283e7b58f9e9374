use Rattle.down_translator.proofs.RecordingLaws.{steps-accepted, steps-pairs, steps-lines}
use Rattle.down_translator.proofs.laws.answers_are_the_translation.Goals as goal

pub returns : goal.returns
returns c =
    let fed = c.fed_parts_are_the_definition.ensures in
    let more = c.one_more_accepted_packet_adds_its_pair_and_line.ensures in
    record {
      accepted = λ paired. steps-accepted paired fed;
      pairs = λ paired. steps-pairs paired fed (more paired);
      lines = λ paired. steps-lines paired (more paired);
    }
