-- The lines of channel voice messages of the MIDI 2.0 protocol, from their kind on.
use Rattle.std.specs.Prelude.{ℕ, List, ◌++◌, codes, decimal, Option, Some, None}
use Rattle.text_lines.specs.Fields.{group_and_channel, field, word_field}
use Rattle.text_lines.specs.VoiceLines.{channel_value, controller_value, note_value}
use Rattle.voice_messages.specs.declared.voice2.ParamKind.{ParamKind}
use Rattle.voice_messages.specs.declared.voice2.ParamKind.TheVariants.{Registered, Assignable}
use Rattle.voice_messages.specs.declared.voice2.Param.{Param}
use Rattle.voice_messages.specs.declared.voice2.Bank.{Bank}
use Rattle.voice_messages.specs.declared.voice2.Voice2.{Voice2}
use Rattle.voice_messages.specs.declared.voice2.Voice2.TheVariants as voice2

abbrev pub kind_word : ParamKind → List ℕ
kind_word Registered = codes "registered"
kind_word Assignable = codes "assignable"

-- the kind of a parameter, and the MSB (`bank`) and the LSB (`index`) of its number
unfoldable pub param_fields : Param → List ℕ
param_fields param =
    word_field (codes "kind") (kind_word param.kind) ++ field (codes "bank") param.bank
    ++ field (codes "index") param.index

-- the kind, the note and the index of a note controller
unfoldable pub controller_fields : ParamKind → ℕ → ℕ → List ℕ
controller_fields kind note index =
    word_field (codes "kind") (kind_word kind) ++ field (codes "note") note ++ field (codes "index") index

-- ` bank=MSB/LSB`, or ` bank=none`
unfoldable pub bank_field : Option Bank → List ℕ
bank_field None = codes " bank=none"
bank_field (Some bank) = codes " bank=" ++ decimal bank.msb ++ codes "/" ++ decimal bank.lsb

-- a note off or a note on
abbrev pub note_message : List ℕ → Option ℕ → ℕ → ℕ → ℕ → ℕ → ℕ → List ℕ
note_message kind group channel note velocity attribute_type attribute =
    kind ++ group_and_channel group channel ++ field (codes "note") note
    ++ field (codes "velocity") velocity ++ field (codes "type") attribute_type
    ++ field (codes "attribute") attribute

-- a value of a parameter, or a change of its value
abbrev pub param_value : List ℕ → Option ℕ → ℕ → Param → ℕ → List ℕ
param_value kind group channel param value =
    kind ++ group_and_channel group channel ++ param_fields param ++ field (codes "value") value

abbrev pub program : Option ℕ → ℕ → ℕ → Option Bank → List ℕ
program group channel number bank =
    codes "program" ++ group_and_channel group channel ++ field (codes "program") number ++ bank_field bank

abbrev pub note_controller : Option ℕ → ℕ → ParamKind → ℕ → ℕ → ℕ → List ℕ
note_controller group channel kind note index value =
    codes "note-controller" ++ group_and_channel group channel ++ controller_fields kind note index
    ++ field (codes "value") value

abbrev pub note_management : Option ℕ → ℕ → ℕ → ℕ → List ℕ
note_management group channel note flags =
    codes "note-management" ++ group_and_channel group channel ++ field (codes "note") note
    ++ field (codes "flags") flags

abbrev pub voice2_fields : Option ℕ → Voice2 → List ℕ
voice2_fields group (voice2.NoteOff channel note velocity attribute_type attribute) =
    note_message (codes "note-off") group channel note velocity attribute_type attribute
voice2_fields group (voice2.NoteOn channel note velocity attribute_type attribute) =
    note_message (codes "note-on") group channel note velocity attribute_type attribute
voice2_fields group (voice2.PolyPressure channel note value) =
    note_value (codes "poly") group channel note value
voice2_fields group (voice2.Control channel index value) =
    controller_value (codes "control") group channel index value
voice2_fields group (voice2.Set channel param value) =
    param_value (codes "parameter") group channel param value
voice2_fields group (voice2.Shift channel param value) =
    param_value (codes "relative") group channel param value
voice2_fields group (voice2.Program channel number bank) = program group channel number bank
voice2_fields group (voice2.Pressure channel value) = channel_value (codes "pressure") group channel value
voice2_fields group (voice2.Bend channel value) = channel_value (codes "bend") group channel value
voice2_fields group (voice2.NoteController channel kind note index value) =
    note_controller group channel kind note index value
voice2_fields group (voice2.NoteBend channel note value) =
    note_value (codes "note-bend") group channel note value
voice2_fields group (voice2.NoteManagement channel note flags) = note_management group channel note flags
