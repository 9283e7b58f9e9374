use Rattle.midi1_bytes.proofs.RunningStatus.{exclusive_whole, knows_all, reads_written, system_whole, written_something, written_status}
use Rattle.midi1_bytes.proofs.laws.statuses_that_run_can_be_left_out.Goals as goal

pub returns : goal.returns
returns c = record {
  reads = reads_written;
  known = knows_all;
  system = system_whole;
  exclusive = exclusive_whole;
  status = written_status;
  something = written_something;
}
