use Rattle.std.proofs.Common.{refl}
use Rattle.bit_scaling.specs.Scaling.{up, down14}
use Rattle.midi1_bytes.specs.Sorts.{sort_of}
use Rattle.midi_meaning.specs.Controllers.{role_of}
use Rattle.midi_meaning.proofs.meaning_rows.each_kind_of_packet_is_listed.Goals as goal

pub returns : goal.returns
unfolding sort_of role_of up down14
returns c = record { each = refl; misplaced = refl; none = refl }
