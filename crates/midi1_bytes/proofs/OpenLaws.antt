-- What is open, as a parser tells it.
use Rattle.std.proofs.Common.{◌≡◌, refl, Option, Some, None}
use Rattle.std.specs.Option.{option_map}
use Rattle.midi1_bytes.specs.declared.step.AfterCut.{AfterCut}
use Rattle.midi1_bytes.specs.Answers.{cut_off_by}
use Rattle.midi1_bytes.specs.Steps.{Step}
use Rattle.midi1_bytes.specs.Stream.{Open}
use Rattle.midi1_bytes.specs.Parsing.{cut_by}

-- a status byte cuts off what is open
pub cut_off_open : (open_one : Option Open) (besides : AfterCut) (alone : Step)
    → cut_off_by (option_map (λ begun. (begun.start, begun.kind)) open_one) besides alone ≡ cut_by open_one besides alone
cut_off_open None besides alone = refl
cut_off_open (Some open_one) besides alone = refl
