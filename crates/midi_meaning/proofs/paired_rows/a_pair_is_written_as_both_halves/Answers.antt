use Rattle.std.proofs.Common.{refl}
use Rattle.bit_scaling.specs.Scaling.{up, down7, down14}
use Rattle.midi1_bytes.specs.Sorts.{sort_of}
use Rattle.midi_meaning.specs.Controllers.{role_of}
use Rattle.midi_meaning.proofs.paired_rows.a_pair_is_written_as_both_halves.Goals as goal

pub returns : goal.returns
unfolding sort_of role_of up down7 down14
returns c = record { plain = refl; compact = refl; alone = refl }
