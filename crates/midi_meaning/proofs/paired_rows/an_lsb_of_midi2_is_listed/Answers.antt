use Rattle.std.proofs.Common.{refl}
use Rattle.bit_scaling.specs.Scaling.{up, down7, down14}
use Rattle.midi1_bytes.specs.Sorts.{sort_of}
use Rattle.midi_meaning.specs.Controllers.{role_of}
use Rattle.midi_meaning.proofs.paired_rows.an_lsb_of_midi2_is_listed.Goals as goal

pub returns : goal.returns
unfolding sort_of role_of up down7 down14
returns c = record { listing = refl; pairs = refl; unlisted = refl; alone = refl }
