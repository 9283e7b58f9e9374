use Rattle.system_stream.proofs.LayoutLaws.{format-good, message-read}
use Rattle.system_stream.proofs.laws.written_messages_are_read.Goals as goal

pub returns : goal.returns
returns c = record { format = format-good; message = message-read }
