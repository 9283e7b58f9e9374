-- The places that a packet's row doesn't name: zeros are written there (M2-104-UM, reserved fields).
use Rattle.std.specs.Prelude.{◌≡◌, ℕ, ◌-◌, List, ◌++◌, length, replicate, Option, None, Some}
use Rattle.voice_messages.specs.declared.voice1.Voice1.{Voice1}
use Rattle.voice_messages.specs.declared.voice1.Voice1.TheVariants as voice1
use Rattle.voice_messages.specs.declared.voice1.System.{System}
use Rattle.voice_messages.specs.declared.voice1.System.TheVariants as system
use Rattle.voice_messages.specs.declared.voice2.Bank.{Bank}
use Rattle.voice_messages.specs.declared.voice2.Voice2.{Voice2}
use Rattle.voice_messages.specs.declared.voice2.Voice2.TheVariants as voice2
use Rattle.ump_grammar.specs.declared.packet.Packet.{Packet}
use Rattle.ump_grammar.specs.declared.packet.Packet.TheVariants as packet
use Rattle.ump_grammar.specs.WordFields.{field, word, byte, group_of}
use Rattle.ump_grammar.specs.Spelling.{exclusive_places}

abbrev pub ZerosInSystem : System → List ℕ → Type 0
ZerosInSystem (system.Quarter value) words = byte words 4 ≡ 0
ZerosInSystem (system.Position value) words = Unit {0}
ZerosInSystem (system.Song value) words = byte words 4 ≡ 0
ZerosInSystem _ words = (byte words 3 ≡ 0) × (byte words 4 ≡ 0)

abbrev pub ZerosInVoice1 : Voice1 → List ℕ → Type 0
ZerosInVoice1 (voice1.Program channel program) words = byte words 4 ≡ 0
ZerosInVoice1 (voice1.Pressure channel value) words = byte words 4 ≡ 0
ZerosInVoice1 _ words = Unit {0}

-- the places of a bank that isn't there
abbrev pub ZerosForBank : Option Bank → List ℕ → Type 0
ZerosForBank None words = (byte words 7 ≡ 0) × (byte words 8 ≡ 0)
ZerosForBank (Some bank) words = Unit {0}

abbrev pub ZerosInVoice2 : Voice2 → List ℕ → Type 0
ZerosInVoice2 (voice2.NoteBend channel note value) words = byte words 4 ≡ 0
ZerosInVoice2 (voice2.PolyPressure channel note value) words = byte words 4 ≡ 0
ZerosInVoice2 (voice2.Control channel index value) words = byte words 4 ≡ 0
ZerosInVoice2 (voice2.Program channel program bank) words =
    (byte words 3 ≡ 0) × (field (word words 1) 1 7 ≡ 0) × (byte words 6 ≡ 0) × ZerosForBank bank words
ZerosInVoice2 (voice2.Pressure channel value) words = (byte words 3 ≡ 0) × (byte words 4 ≡ 0)
ZerosInVoice2 (voice2.Bend channel value) words = (byte words 3 ≡ 0) × (byte words 4 ≡ 0)
ZerosInVoice2 (voice2.NoteManagement channel note flags) words = word words 2 ≡ 0
ZerosInVoice2 _ words = Unit {0}

abbrev pub HasZeros : Packet → List ℕ → Type 0
HasZeros (packet.Utility status value) words = group_of words ≡ 0
HasZeros (packet.System group message) words = ZerosInSystem message words
HasZeros (packet.Voice1 group message) words = ZerosInVoice1 message words
HasZeros (packet.Exclusive group form bytes) words = exclusive_places words ≡ bytes ++ replicate (6 - length bytes) 0
HasZeros (packet.Voice2 group message) words = ZerosInVoice2 message words
HasZeros _ words = Unit {0}
