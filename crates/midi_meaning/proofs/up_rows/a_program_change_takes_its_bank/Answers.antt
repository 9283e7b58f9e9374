use Rattle.midi_meaning.proofs.UpRows.{program_up, banked_up}
use Rattle.midi_meaning.proofs.up_rows.a_program_change_takes_its_bank.Goals as goal

pub returns : goal.returns
returns c = record { alone = program_up; banked = banked_up }
