use Rattle.midi_meaning.proofs.ComesBack.{first_come_back, nothing_begun, nothing_listed}
use Rattle.midi_meaning.proofs.up_laws.raised_packets_come_back_in_silence.Goals as goal

pub returns : goal.returns
returns c = λ paired. record { each = first_come_back paired; nothing_begun = nothing_begun paired; nothing_listed = nothing_listed paired }
