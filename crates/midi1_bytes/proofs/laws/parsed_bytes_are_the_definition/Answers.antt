use Rattle.std.proofs.Common.{ap, refl}
use Rattle.midi1_bytes.proofs.ParserLaws.{parse-held, open-held}
use Rattle.midi1_bytes.proofs.laws.parsed_bytes_are_the_definition.Goals as goal

pub returns : goal.returns
returns c = record {
  new = λ room. refl;
  step = λ room past byte. ap (λ parsed. parsed.step) (parse-held room past byte);
  after = λ room past byte. ap (λ parsed. parsed.after) (parse-held room past byte);
  end = open-held;
}
