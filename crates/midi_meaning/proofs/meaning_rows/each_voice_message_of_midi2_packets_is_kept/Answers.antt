use Rattle.std.proofs.Common.{refl}
use Rattle.bit_scaling.specs.Scaling.{up, down14}
use Rattle.midi1_bytes.specs.Sorts.{sort_of}
use Rattle.midi_meaning.specs.Controllers.{role_of}
use Rattle.midi_meaning.proofs.meaning_rows.each_voice_message_of_midi2_packets_is_kept.Goals as goal

pub returns : goal.returns
unfolding sort_of role_of up down14
returns c = record { notes = refl; poly_pressure = refl; pressure = refl; controller = refl; program = refl; bend = refl; nothing = refl }
