use Rattle.midi_meaning.proofs.Compact.{midi1_written, new_bank_written, new_parameter_written}
use Rattle.midi_meaning.proofs.Compact.{other_written, parameter_written, program_written}
use Rattle.midi_meaning.proofs.style_laws.compact_leaves_out_what_is_held.Goals as goal

pub returns : goal.returns
returns c = λ paired. record {
  midi1 = midi1_written paired;
  other = other_written paired;
  new_parameter = new_parameter_written paired;
  new_bank = new_bank_written paired;
  parameter = parameter_written paired;
  program = program_written paired;
}
