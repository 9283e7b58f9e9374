-- The channel that a channel voice message is for (MIDI 1.0 Detailed Specification and M2-104-UM, channel voice messages).
use Rattle.std.specs.Prelude.{ℕ}
use Rattle.voice_messages.specs.declared.voice1.Voice1.{Voice1}
use Rattle.voice_messages.specs.declared.voice1.Voice1.TheVariants as voice1
use Rattle.voice_messages.specs.declared.voice2.Voice2.{Voice2}
use Rattle.voice_messages.specs.declared.voice2.Voice2.TheVariants as voice2

abbrev pub channel_of : Voice1 → ℕ
channel_of (voice1.NoteOff channel note velocity) = channel
channel_of (voice1.NoteOn channel note velocity) = channel
channel_of (voice1.PolyPressure channel note value) = channel
channel_of (voice1.Control channel index value) = channel
channel_of (voice1.Program channel program) = channel
channel_of (voice1.Pressure channel value) = channel
channel_of (voice1.Bend channel value) = channel

abbrev pub channel2 : Voice2 → ℕ
channel2 (voice2.NoteOff channel note velocity attribute_type attribute) = channel
channel2 (voice2.NoteOn channel note velocity attribute_type attribute) = channel
channel2 (voice2.PolyPressure channel note value) = channel
channel2 (voice2.Control channel index value) = channel
channel2 (voice2.Set channel param value) = channel
channel2 (voice2.Shift channel param value) = channel
channel2 (voice2.Program channel program bank) = channel
channel2 (voice2.Pressure channel value) = channel
channel2 (voice2.Bend channel value) = channel
channel2 (voice2.NoteController channel kind note index value) = channel
channel2 (voice2.NoteBend channel note value) = channel
channel2 (voice2.NoteManagement channel note flags) = channel
