use Rattle.midi1_bytes.proofs.Written.{reads_all}
use Rattle.midi1_bytes.proofs.laws.written_messages_are_read_again.Goals as goal

pub returns : goal.returns
returns c = reads_all
