use Rattle.midi1_bytes.proofs.Rows.{clock_between_data_bytes}
use Rattle.midi1_bytes.proofs.laws.a_clock_stands_between_data_bytes.Goals as goal

pub returns : goal.returns
returns c = clock_between_data_bytes
