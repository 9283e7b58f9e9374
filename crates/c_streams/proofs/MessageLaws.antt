-- What a step completes fits a buffer for an exclusive of the limit.
use Rattle.std.proofs.Common.{◌≡◌, ℕ, ◌+◌, ◌≤◌, List, [], ◌∷◌, ◌++◌, length, arith, length-append}
use Rattle.midi1_bytes.specs.declared.step.AfterCut.TheVariants as after
use Rattle.midi1_bytes.specs.Messages.{voice, common, exclusive, real_time, spelled_voice, spelled_system}
use Rattle.midi1_bytes.specs.Steps.{Step, held, completes, stray, undefined, cut, too_long}
use Rattle.voice_messages.specs.declared.voice1.Voice1.{Voice1}
use Rattle.voice_messages.specs.declared.voice1.Voice1.TheVariants as voice1
use Rattle.voice_messages.specs.declared.voice1.System.{System}
use Rattle.voice_messages.specs.declared.voice1.System.TheVariants as system
use Rattle.c_answers.specs.Within.{CompletesWithin}
use Rattle.c_streams.specs.Parser.{message_in}

voice_short : (message : Voice1) → length (spelled_voice message) ≤ 3
voice_short (voice1.NoteOff channel note velocity) = omega arith
voice_short (voice1.NoteOn channel note velocity) = omega arith
voice_short (voice1.PolyPressure channel note value) = omega arith
voice_short (voice1.Control channel index value) = omega arith
voice_short (voice1.Program channel program) = omega arith
voice_short (voice1.Pressure channel value) = omega arith
voice_short (voice1.Bend channel value) = omega arith

system_short : (message : System) → length (spelled_system message) ≤ 3
system_short (system.Quarter value) = omega arith
system_short (system.Position value) = omega arith
system_short (system.Song value) = omega arith
system_short system.Tune = omega arith
system_short _ = omega arith

framed_length : (bytes : List ℕ) → length (0xf0 ∷ bytes ++ 0xf7 ∷ []) ≡ length bytes + 2
framed_length bytes = omega (arith, length-append bytes (0xf7 ∷ []))

-- what a step completes fits a buffer of the limit and two bytes more
pub message_fits : (room : ℕ) (step : Step) → 6 ≤ room → CompletesWithin room step → length (message_in step) ≤ room + 2
message_fits room held least h = omega arith
message_fits room (completes (voice message)) least h = omega (arith, voice_short message)
message_fits room (completes (common message)) least h = omega (arith, system_short message)
message_fits room (completes (real_time message)) least h = omega (arith, system_short message)
message_fits room (completes (exclusive bytes)) least h = omega (arith, framed_length bytes)
message_fits room stray least h = omega arith
message_fits room undefined least h = omega arith
message_fits room (cut start what after.Begins) least h = omega arith
message_fits room (cut start what after.Tune) least h = omega arith
message_fits room (cut start what after.Undefined) least h = omega arith
message_fits room (cut start what after.Stray) least h = omega arith
message_fits room too_long least h = omega arith
