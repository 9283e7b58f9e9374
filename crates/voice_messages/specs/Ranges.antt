-- The ranges of the fields of messages: each number fits its bits.
use Rattle.std.specs.Prelude.{◌<◌, ◌^◌, Option, Some, None}
use Rattle.voice_messages.specs.declared.voice1.Voice1.{Voice1}
use Rattle.voice_messages.specs.declared.voice1.Voice1.TheVariants as voice1
use Rattle.voice_messages.specs.declared.voice1.System.{System}
use Rattle.voice_messages.specs.declared.voice1.System.TheVariants as system
use Rattle.voice_messages.specs.declared.voice2.Param.{Param}
use Rattle.voice_messages.specs.declared.voice2.Bank.{Bank}
use Rattle.voice_messages.specs.declared.voice2.Voice2.{Voice2}
use Rattle.voice_messages.specs.declared.voice2.Voice2.TheVariants as voice2

abbrev pub IsVoice1 : Voice1 → Type 0
IsVoice1 (voice1.NoteOff channel note velocity) = (channel < 16) × (note < 128) × (velocity < 128)
IsVoice1 (voice1.NoteOn channel note velocity) = (channel < 16) × (note < 128) × (velocity < 128)
IsVoice1 (voice1.PolyPressure channel note value) = (channel < 16) × (note < 128) × (value < 128)
IsVoice1 (voice1.Control channel index value) = (channel < 16) × (index < 128) × (value < 128)
IsVoice1 (voice1.Program channel program) = (channel < 16) × (program < 128)
IsVoice1 (voice1.Pressure channel value) = (channel < 16) × (value < 128)
IsVoice1 (voice1.Bend channel value) = (channel < 16) × (value < 16384)

abbrev pub IsSystem : System → Type 0
IsSystem (system.Quarter value) = value < 128
IsSystem (system.Position value) = value < 16384
IsSystem (system.Song value) = value < 128
IsSystem _ = Unit {0}

abbrev pub IsParam : Param → Type 0
IsParam param = (param.bank < 128) × (param.index < 128)

abbrev pub IsBank : Option Bank → Type 0
IsBank None = Unit {0}
IsBank (Some bank) = (bank.msb < 128) × (bank.lsb < 128)

abbrev pub IsVoice2 : Voice2 → Type 0
IsVoice2 (voice2.NoteOff channel note velocity attribute_type attribute) =
    (channel < 16) × (note < 128) × (velocity < 2 ^ 16) × (attribute_type < 256) × (attribute < 2 ^ 16)
IsVoice2 (voice2.NoteOn channel note velocity attribute_type attribute) =
    (channel < 16) × (note < 128) × (velocity < 2 ^ 16) × (attribute_type < 256) × (attribute < 2 ^ 16)
IsVoice2 (voice2.PolyPressure channel note value) = (channel < 16) × (note < 128) × (value < 2 ^ 32)
IsVoice2 (voice2.Control channel index value) = (channel < 16) × (index < 128) × (value < 2 ^ 32)
IsVoice2 (voice2.Set channel param value) = (channel < 16) × IsParam param × (value < 2 ^ 32)
IsVoice2 (voice2.Shift channel param value) = (channel < 16) × IsParam param × (value < 2 ^ 32)
IsVoice2 (voice2.Program channel program bank) = (channel < 16) × (program < 128) × IsBank bank
IsVoice2 (voice2.Pressure channel value) = (channel < 16) × (value < 2 ^ 32)
IsVoice2 (voice2.Bend channel value) = (channel < 16) × (value < 2 ^ 32)
IsVoice2 (voice2.NoteController channel kind note index value) = (channel < 16) × (note < 128) × (index < 256) × (value < 2 ^ 32)
IsVoice2 (voice2.NoteBend channel note value) = (channel < 16) × (note < 128) × (value < 2 ^ 32)
IsVoice2 (voice2.NoteManagement channel note flags) = (channel < 16) × (note < 128) × (flags < 256)
