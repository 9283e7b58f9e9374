use Rattle.std.proofs.Common.{refl}
use Rattle.bit_scaling.specs.Scaling.{up, down14}
use Rattle.midi1_bytes.specs.Sorts.{sort_of}
use Rattle.midi_meaning.specs.Controllers.{role_of}
use Rattle.midi_meaning.proofs.meaning_rows.system_messages_are_kept_in_two_lists.Goals as goal

pub returns : goal.returns
unfolding sort_of role_of up down14
returns c = record { commons = refl; real_times = refl; packet_commons = refl; packet_real_times = refl; other_group = refl }
