-- Messages of a MIDI 1.0 stream, from their bytes and to them (MIDI 1.0 Detailed Specification, the tables of
-- messages).
use Rattle.std.specs.Prelude.{ℕ, ◌+◌, ◌*◌, ◌/◌, ◌%◌, ◌<◌, ◌==◌, if◌then◌else◌, List, [], ◌∷◌, ◌++◌, slice_index}
use Rattle.std.specs.List.{AllByRecursion}
use Rattle.voice_messages.specs.declared.voice1.Voice1.{Voice1}
use Rattle.voice_messages.specs.declared.voice1.Voice1.TheVariants as voice1
use Rattle.voice_messages.specs.declared.voice1.System.{System}
use Rattle.voice_messages.specs.declared.voice1.System.TheVariants as system
use Rattle.voice_messages.specs.Ranges.{IsVoice1}
use Rattle.midi1_bytes.specs.Sorts.{Count, one, two}

-- an exclusive by the bytes between its F0 and F7
pub data Message : Type 0 where
  voice : Voice1 → Message
  common : System → Message
  exclusive : List ℕ → Message
  real_time : System → Message

-- ---- from the bytes

-- two data bytes as a number of 14 bits, the low seven bits first
abbrev pub fourteen_bits : ℕ → ℕ → ℕ
fourteen_bits first second = second * 128 + first

abbrev pub voice_of_two : ℕ → ℕ → ℕ → ℕ → Voice1
voice_of_two opcode channel first second =
    if opcode == 8 then voice1.NoteOff channel first second
    else if opcode == 9 then voice1.NoteOn channel first second
    else if opcode == 10 then voice1.PolyPressure channel first second
    else if opcode == 11 then voice1.Control channel first second
    else voice1.Bend channel (fourteen_bits first second)

abbrev pub voice_of_one : ℕ → ℕ → ℕ → Voice1
voice_of_one opcode channel only = if opcode == 12 then voice1.Program channel only else voice1.Pressure channel only

-- the voice message of a status byte, its last data byte, and those before it, newest first
abbrev pub voice_of : Count → ℕ → ℕ → List ℕ → Voice1
voice_of one status last before = voice_of_one (status / 16) (status % 16) last
voice_of two status last before = voice_of_two (status / 16) (status % 16) (slice_index before 0) last

abbrev pub common_of : Count → ℕ → ℕ → List ℕ → System
common_of one status last before = if status == 0xf1 then system.Quarter last else system.Song last
common_of two status last before = system.Position (fourteen_bits (slice_index before 0) last)

abbrev pub real_time_of : ℕ → System
real_time_of byte =
    if byte == 0xf8 then system.Clock
    else if byte == 0xfa then system.Start
    else if byte == 0xfb then system.Continue
    else if byte == 0xfc then system.Stop
    else if byte == 0xfe then system.Sensing
    else system.Reset

-- ---- to the bytes

abbrev pub spelled_voice : Voice1 → List ℕ
spelled_voice (voice1.NoteOff channel note velocity) = (0x80 + channel) ∷ note ∷ velocity ∷ []
spelled_voice (voice1.NoteOn channel note velocity) = (0x90 + channel) ∷ note ∷ velocity ∷ []
spelled_voice (voice1.PolyPressure channel note value) = (0xa0 + channel) ∷ note ∷ value ∷ []
spelled_voice (voice1.Control channel index value) = (0xb0 + channel) ∷ index ∷ value ∷ []
spelled_voice (voice1.Program channel program) = (0xc0 + channel) ∷ program ∷ []
spelled_voice (voice1.Pressure channel value) = (0xd0 + channel) ∷ value ∷ []
spelled_voice (voice1.Bend channel value) = (0xe0 + channel) ∷ (value % 128) ∷ (value / 128) ∷ []

abbrev pub spelled_system : System → List ℕ
spelled_system (system.Quarter value) = 0xf1 ∷ value ∷ []
spelled_system (system.Position value) = 0xf2 ∷ (value % 128) ∷ (value / 128) ∷ []
spelled_system (system.Song value) = 0xf3 ∷ value ∷ []
spelled_system system.Tune = 0xf6 ∷ []
spelled_system system.Clock = 0xf8 ∷ []
spelled_system system.Start = 0xfa ∷ []
spelled_system system.Continue = 0xfb ∷ []
spelled_system system.Stop = 0xfc ∷ []
spelled_system system.Sensing = 0xfe ∷ []
spelled_system system.Reset = 0xff ∷ []

abbrev pub spelled : Message → List ℕ
spelled (voice message) = spelled_voice message
spelled (common message) = spelled_system message
spelled (real_time message) = spelled_system message
spelled (exclusive bytes) = 0xf0 ∷ bytes ++ 0xf7 ∷ []

-- ---- which messages there are

-- a system message is a common one or a Real Time one
abbrev pub system_message : System → Message
system_message (system.Quarter value) = common (system.Quarter value)
system_message (system.Position value) = common (system.Position value)
system_message (system.Song value) = common (system.Song value)
system_message system.Tune = common system.Tune
system_message system.Clock = real_time system.Clock
system_message system.Start = real_time system.Start
system_message system.Continue = real_time system.Continue
system_message system.Stop = real_time system.Stop
system_message system.Sensing = real_time system.Sensing
system_message system.Reset = real_time system.Reset

abbrev pub IsCommon : System → Type 0
IsCommon (system.Quarter value) = value < 128
IsCommon (system.Position value) = value < 16384
IsCommon (system.Song value) = value < 128
IsCommon system.Tune = Unit {0}
IsCommon _ = ⊥

abbrev pub IsRealTime : System → Type 0
IsRealTime (system.Quarter value) = ⊥
IsRealTime (system.Position value) = ⊥
IsRealTime (system.Song value) = ⊥
IsRealTime system.Tune = ⊥
IsRealTime _ = Unit {0}

abbrev pub AreData : List ℕ → Type 0
AreData bytes = AllByRecursion (λ byte. byte < 128) bytes

-- the messages that bytes can spell
abbrev pub IsMessage : Message → Type 0
IsMessage (voice message) = IsVoice1 message
IsMessage (common message) = IsCommon message
IsMessage (real_time message) = IsRealTime message
IsMessage (exclusive bytes) = AreData bytes
