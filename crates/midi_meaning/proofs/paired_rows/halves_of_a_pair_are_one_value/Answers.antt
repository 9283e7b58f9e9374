use Rattle.std.proofs.Common.{refl}
use Rattle.bit_scaling.specs.Scaling.{up, down7, down14}
use Rattle.midi1_bytes.specs.Sorts.{sort_of}
use Rattle.midi_meaning.specs.Controllers.{role_of}
use Rattle.midi_meaning.proofs.paired_rows.halves_of_a_pair_are_one_value.Goals as goal

pub returns : goal.returns
unfolding sort_of role_of up down7 down14
returns c = record { lsb = refl; none = refl; msb = refl; packets = refl; alone = refl; other = refl }
