use Rattle.midi1_bytes.proofs.RunningStatus.{running_of_written, written_by_running}
use Rattle.midi1_bytes.proofs.laws.running_status_is_that_of_the_messages.Goals as goal

pub returns : goal.returns
returns c = record { after = running_of_written; written = written_by_running }
