use Rattle.std.proofs.Common.{refl}
use Rattle.bit_scaling.specs.Scaling.{up, down14}
use Rattle.midi1_bytes.specs.Sorts.{sort_of}
use Rattle.midi_meaning.specs.Controllers.{role_of}
use Rattle.midi_meaning.proofs.meaning_rows.mode_messages_are_kept_with_the_notes.Goals as goal

pub returns : goal.returns
unfolding sort_of role_of up down14
returns c = record { modes = refl; controllers = refl; packet_modes = refl; packet_controllers = refl }
