use Rattle.std.proofs.Common.{refl}
use Rattle.bit_scaling.specs.Scaling.{up, down14}
use Rattle.midi1_bytes.specs.Sorts.{sort_of}
use Rattle.midi_meaning.specs.Controllers.{role_of}
use Rattle.midi_meaning.proofs.meaning_rows.programs_take_the_bank.Goals as goal

pub returns : goal.returns
unfolding sort_of role_of up down14
returns c =
    record { none = refl; both = refl; msb_alone = refl; lsb_alone = refl; with_bank = refl; without_bank = refl; half_a_bank = refl }
