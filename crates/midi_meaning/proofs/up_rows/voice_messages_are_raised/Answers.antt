use Rattle.midi_meaning.proofs.UpRows.{notes_up, zero_up, zero_back, wide_up}
use Rattle.midi_meaning.proofs.up_rows.voice_messages_are_raised.Goals as goal

pub returns : goal.returns
returns c = record { notes = notes_up; zero = zero_up; zero_back = zero_back; wide = wide_up }
