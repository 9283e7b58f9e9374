use Rattle.std.proofs.Common.{refl}
use Rattle.bit_scaling.specs.Scaling.{up, down14}
use Rattle.midi1_bytes.specs.Sorts.{sort_of}
use Rattle.midi_meaning.specs.Controllers.{role_of}
use Rattle.midi_meaning.proofs.meaning_rows.parameters_are_set_and_changed.Goals as goal

pub returns : goal.returns
unfolding sort_of role_of up down14
returns c = record {
  assignable_msb = refl;
  lsb_alone = refl;
  null_parameter = refl;
  set = refl;
  changed = refl;
  entered = refl;
  still_changed = refl;
  msb = refl;
  set_anew = refl;
}
