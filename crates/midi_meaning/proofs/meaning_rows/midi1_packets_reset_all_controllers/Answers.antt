use Rattle.std.proofs.Common.{refl}
use Rattle.bit_scaling.specs.Scaling.{up, down14}
use Rattle.midi1_bytes.specs.Sorts.{sort_of}
use Rattle.midi_meaning.specs.Controllers.{role_of}
use Rattle.midi_meaning.proofs.meaning_rows.midi1_packets_reset_all_controllers.Goals as goal

pub returns : goal.returns
unfolding sort_of role_of up down14
returns c = record { controllers = refl; bend = refl; pressure = refl; poly_pressure = refl; registers = refl; mode = refl }
