-- The lines of channel voice and system messages of the MIDI 1.0 protocol, from their kind on. A message of a
-- stream of bytes has no group.
use Rattle.std.specs.Prelude.{ℕ, List, ◌++◌, codes, Option}
use Rattle.text_lines.specs.Fields.{group_field, group_and_channel, field, hex_field}
use Rattle.text_lines.specs.VoiceLines.{channel_value, controller_value, note_value}
use Rattle.voice_messages.specs.declared.voice1.Voice1.{Voice1}
use Rattle.voice_messages.specs.declared.voice1.Voice1.TheVariants as voice1
use Rattle.voice_messages.specs.declared.voice1.System.{System}
use Rattle.voice_messages.specs.declared.voice1.System.TheVariants as system

-- a note off or a note on
abbrev pub m1_note : List ℕ → Option ℕ → ℕ → ℕ → ℕ → List ℕ
m1_note kind group channel note velocity =
    kind ++ group_and_channel group channel ++ field (codes "note") note ++ field (codes "velocity") velocity

abbrev pub m1_program : Option ℕ → ℕ → ℕ → List ℕ
m1_program group channel program =
    codes "m1-program" ++ group_and_channel group channel ++ field (codes "program") program

abbrev pub voice1_fields : Option ℕ → Voice1 → List ℕ
voice1_fields group (voice1.NoteOff channel note velocity) =
    m1_note (codes "m1-note-off") group channel note velocity
voice1_fields group (voice1.NoteOn channel note velocity) =
    m1_note (codes "m1-note-on") group channel note velocity
voice1_fields group (voice1.PolyPressure channel note value) =
    note_value (codes "m1-poly") group channel note value
voice1_fields group (voice1.Control channel index value) =
    controller_value (codes "m1-control") group channel index value
voice1_fields group (voice1.Program channel program) = m1_program group channel program
voice1_fields group (voice1.Pressure channel value) = channel_value (codes "m1-pressure") group channel value
voice1_fields group (voice1.Bend channel value) = channel_value (codes "m1-bend") group channel value

-- `system` with the status byte in two hexadecimal digits
abbrev pub system_status : Option ℕ → ℕ → List ℕ
system_status group status = codes "system" ++ group_field group ++ hex_field (codes "status") 2 status

-- the messages with data bytes have their value
abbrev pub system_fields : Option ℕ → System → List ℕ
system_fields group (system.Quarter value) = system_status group 0xF1 ++ field (codes "value") value
system_fields group (system.Position value) = system_status group 0xF2 ++ field (codes "value") value
system_fields group (system.Song value) = system_status group 0xF3 ++ field (codes "value") value
system_fields group system.Tune = system_status group 0xF6
system_fields group system.Clock = system_status group 0xF8
system_fields group system.Start = system_status group 0xFA
system_fields group system.Continue = system_status group 0xFB
system_fields group system.Stop = system_status group 0xFC
system_fields group system.Sensing = system_status group 0xFE
system_fields group system.Reset = system_status group 0xFF
